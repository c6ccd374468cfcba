-- The day of a date, by the parts that the code finds.
use Rattle.std.proofs.Common.{◌≡◌, ◌+◌, ◌-◌, sym, ◌∙◌, arith}
use Rattle.calendar.specs.Years.{is_leap}
use Rattle.calendar.specs.Months.{before}
use Rattle.calendar.specs.Dates.{day_of}
use Rattle.calendar.proofs.Dating.{IsDate, date_from}
use Rattle.calendar.proofs.MonthDays.{length_some, length_none}
use Rattle.calendar.proofs.DateLaws.{some_day, no_day, inverse, one_day}
use Rattle.calendar.proofs.days.day_of.Goals as goal

pub returns-in_err-length : goal.returns-in_err-length
returns-in_err-length c =
    let n = length_none c.is_leap-leap.result c.args.date.month (sym c.length_of.ensures ∙ c.in_err-length.was) in
    record {
      value = c.from_residual.ensures ∙ no_day c.args.date (λ i. n i.month_low i.month_high);
      bound = rw c.from_residual.ensures tt;
      inverse = inverse;
      one = one_day;
    }

pub returns-then-date-lt1900 : goal.returns-then-date-lt1900
returns-then-date-lt1900 c =
    let l = rw c.is_leap-leap.ensures at (length_some c.is_leap-leap.result c.args.date.month _ (sym c.length_of.ensures ∙ c.in_ok-length.was)) in
    record { value = no_day c.args.date (λ i. omega (arith, l)); bound = tt; inverse = inverse; one = one_day }

pub returns : goal.returns
unfolding day_of
returns c =
    let l = rw c.is_leap-leap.ensures at (length_some c.is_leap-leap.result c.args.date.month _ (sym c.length_of.ensures ∙ c.in_ok-length.was)) in
    let f : c.days_of-months.result ≡ before (is_leap c.args.date.year) (c.args.date.month - 1) = cc in
    let i : IsDate c.args.date = record {
      year_low = omega arith;
      year_high = omega arith;
      month_low = l.0;
      month_high = l.1;
      day_low = omega arith;
      day_high = omega (arith, l);
    } in
    let k : day_of c.args.date ≡ c.year_start.result + c.days_of-months.result + (c.args.date.day - 1) = omega (arith, f, c.year_start.ensures.value) in
    record {
      value = sym (some_day c.args.date _ i k);
      bound = omega (arith, (date_from c.args.date _ i k).0);
      inverse = inverse;
      one = one_day;
    }
