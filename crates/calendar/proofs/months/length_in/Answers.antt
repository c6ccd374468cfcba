-- A month's length, from its row.
use Rattle.std.proofs.Common.{◌≡◌, ◌+◌, ◌-◌, ap, ◌∙◌, arith}
use Rattle.calendar.specs.Months.{month_length}
use Rattle.calendar.proofs.MonthRows.{rows, row}
use Rattle.calendar.proofs.MonthDays.{month_long}
use Rattle.calendar.proofs.months.length_in.Goals as goal

pub returns : goal.returns
unfolding rows
returns c =
    let e : 1 + (c.args.month - 1) ≡ c.args.month = omega arith in
    let r = row c.args.leap (c.args.month - 1) (omega arith) ∙ ap (month_length c.args.leap) e in
    let l = month_long c.args.leap c.args.month in
    record { value = r; bound = (omega (arith, r, l), omega (arith, r, l)) }
