-- The month that a day of the year lies in, and its day there.
use Rattle.std.proofs.Common.{◌≡◌, ◌+◌, ◌<◌, arith}
use Rattle.calendar.specs.Months.{month_length, before}
use Rattle.calendar.proofs.MonthDays.{month_long, before_none, before_all, month_back, month_step, InMonth, is_in_month, one_month}
use Rattle.calendar.proofs.months.month_day.Goals as goal

pub loop-month-init : goal.loop-month-init
loop-month-init c = omega (arith, before_none c.args.leap)

pub loop-month-preserved : goal.loop-month-preserved
loop-month-preserved c =
    omega (arith, month_step c.args.leap c.loop-month.month c.loop-month.auto.month, c.loop-month.invariant, c.length_in-length.ensures.value)

pub returns-then-left-length-clause-month : goal.returns-then-left-length-clause-month
returns-then-left-length-clause-month c =
    let i = c.loop-month.invariant in
    let m : InMonth c.args.leap c.args.n c.loop-month.month = record {
      low = omega arith;
      high = omega arith;
      begins = omega (arith, i);
      ends = omega (arith, i, c.length_in-length.ensures.value, month_back c.args.leap c.loop-month.month c.loop-month.auto.month);
    } in
    one_month c.args.leap c.args.n c.loop-month.month _ m (is_in_month c.args.leap c.args.n c.requires)

-- past the other months what is left lies in December, since no more is left of the year
december : (c : goal.After-loop-month) → (before c.args.leap 11 + c.loop-month.left ≡ c.args.n) × (c.loop-month.left < month_length c.args.leap 12)
december c =
    let e : c.loop-month.month ≡ 12 = omega arith in
    let i : before c.args.leap 11 + c.loop-month.left ≡ c.args.n = rw e at c.loop-month.invariant in
    (i, omega (arith, i, c.requires, before_all c.args.leap, month_back c.args.leap 12 (omega arith)))

pub overflow_cast-result-2 : goal.overflow_cast-result-2
overflow_cast-result-2 c = omega (arith, december c, month_long c.args.leap 12)

pub returns-clause-month : goal.returns-clause-month
returns-clause-month c =
    let d = december c in
    let m : InMonth c.args.leap c.args.n 12 = record {
      low = omega arith;
      high = omega arith;
      begins = omega (arith, d);
      ends = omega (arith, d, month_back c.args.leap 12 (omega arith));
    } in
    one_month c.args.leap c.args.n 12 _ m (is_in_month c.args.leap c.args.n c.requires)

pub returns-clause-within : goal.returns-clause-within
returns-clause-within c = omega (arith, december c)
