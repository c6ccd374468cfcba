-- The date of a day, by the parts that the code finds.
use Rattle.std.proofs.Common.{◌≡◌, ◌-◌, Some, sym, ap, ◌∙◌, arith}
use Rattle.calendar.specs.declared.date.Date.{Date}
use Rattle.calendar.specs.Years.{is_leap}
use Rattle.calendar.specs.Months.{month_length, before}
use Rattle.calendar.specs.Dates.{day_of}
use Rattle.calendar.proofs.Dating.{IsDate, date_from}
use Rattle.calendar.proofs.DateLaws.{some_date, no_date, inverse}
use Rattle.calendar.proofs.NextDates.{follows}
use Rattle.calendar.proofs.days.date_of.Goals as goal

pub returns-then-day-gt-LAST_DAY : goal.returns-then-day-gt-LAST_DAY
returns-then-day-gt-LAST_DAY c = record { value = no_date c.args.day (omega arith); there = λ h. absurd (omega arith); inverse = inverse; follows = follows }

pub returns : goal.returns
unfolding day_of
returns c =
    let y = c.year_of-year.ensures in
    let m = c.month_day-found.ensures in
    let t : Date = record { year = c.year_of-year.result; month = c.month_day-found.result.month; day = c.month_day-found.result.day } in
    let l : month_length c.is_leap.result t.month ≡ month_length (is_leap t.year) t.month = cc in
    let b : before c.is_leap.result (t.month - 1) ≡ before (is_leap t.year) (t.month - 1) = cc in
    let i : IsDate t = record {
      year_low = y.range.0;
      year_high = y.range.1;
      month_low = m.range.0;
      month_high = m.range.1;
      day_low = m.within.0;
      day_high = omega (arith, m.within.1, l);
    } in
    let o = date_from t c.args.day i (omega (arith, m.day, b, y.within, c.year_start.ensures.value)) in
    record {
      value = sym (some_date c.args.day o.0 ∙ ap (λ u. Some u) o.1);
      there = λ h. ap (λ u. Some u) (sym o.1);
      inverse = inverse;
      follows = follows;
    }
