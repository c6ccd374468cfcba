-- The date of the next day.
use Rattle.std.proofs.Common.{◌≡◌, ◌+◌, ◌<◌, cond, ltb, refl, ap, ◌∙◌, ⊎_elim, arith}
use Rattle.std.proofs.lemmas.Bool.{cases_lt, lt-ltb, le-ltb}
use Rattle.calendar.specs.declared.date.Date.{Date}
use Rattle.calendar.specs.Years.{last_day, is_leap, year_start, year_of}
use Rattle.calendar.specs.Months.{month_length, before, begun}
use Rattle.calendar.specs.Dates.{month_of, month_day, date_of, day_of}
use Rattle.calendar.specs.Laws.{Follows, next_date}
use Rattle.calendar.proofs.YearDays.{year_more, last_year}
use Rattle.calendar.proofs.MonthDays.{month_long, month_back, month_step, before_none, before_all}
use Rattle.calendar.proofs.Dating.{IsDate, dated, date_from}

-- the date after a date, with its day
record Next (t u : Date) : Type 0 where
  ok : IsDate u
  day : day_of u ≡ day_of t + 1

next_day : (t : Date) → IsDate t → t.day < month_length (is_leap t.year) t.month → Next t (record { year = t.year; month = t.month; day = t.day + 1 })
unfolding day_of
next_day t i h =
    record {
      ok = record {
        year_low = i.year_low;
        year_high = i.year_high;
        month_low = i.month_low;
        month_high = i.month_high;
        day_low = omega arith;
        day_high = omega arith;
      };
      day = omega (arith, i.day_low);
    }

next_month : (t : Date) → IsDate t → t.day ≡ month_length (is_leap t.year) t.month → t.month < 12 → Next t (record { year = t.year; month = t.month + 1; day = 1 })
unfolding day_of
next_month t i h l =
    record {
      ok = record {
        year_low = i.year_low;
        year_high = i.year_high;
        month_low = omega arith;
        month_high = omega arith;
        day_low = omega arith;
        day_high = omega (arith, month_long (is_leap t.year) (t.month + 1));
      };
      day = omega (arith, i.day_low, month_step (is_leap t.year) t.month i.month_low);
    }

next_year : (t : Date) → IsDate t → t.day ≡ month_length (is_leap t.year) t.month → t.month ≡ 12 → day_of t < last_day → Next t (record { year = t.year + 1; month = 1; day = 1 })
unfolding day_of
next_year t i h l d =
    let b = month_back (is_leap t.year) t.month i.month_low in
    let a = ap (before (is_leap t.year)) l ∙ before_all (is_leap t.year) in
    let s : year_start (t.year + 1) ≡ day_of t + 1 = omega (arith, a, b, i.day_low, year_more t.year i.year_low) in
    record {
      ok = record {
        year_low = omega (arith, i.year_low);
        year_high =
            ⊎_elim (λ g. g)
            (λ g.
            let e : t.year + 1 ≡ 2200 = omega (arith, i.year_high) in
            absurd (omega (arith, ap year_start e, last_year, s)))
            (cases_lt (t.year + 1) 2200);
        month_low = omega arith;
        month_high = omega arith;
        day_low = omega arith;
        day_high = omega (arith, month_long (is_leap (t.year + 1)) 1);
      };
      day = omega (arith, s, before_none (is_leap (t.year + 1)));
    }

next : (t : Date) → IsDate t → day_of t < last_day → Next t (next_date t)
next t i d =
    ⊎_elim (λ h. rw (lt-ltb t.day (month_length (is_leap t.year) t.month) h) (next_day t i h))
    (λ h.
    let f : t.day ≡ month_length (is_leap t.year) t.month = omega (arith, i.day_high) in
    let g : Next t (cond (ltb t.month 12) (record { year = t.year; month = t.month + 1; day = 1 }) (record { year = t.year + 1; month = 1; day = 1 })) =
    ⊎_elim (λ l. rw (lt-ltb t.month 12 l) (next_month t i f l))
    (λ l. let e : t.month ≡ 12 = omega (arith, i.month_high) in rw (le-ltb t.month 12 l) (next_year t i f e d))
    (cases_lt t.month 12) in
    rw (le-ltb t.day (month_length (is_leap t.year) t.month) h) g)
    (cases_lt t.day (month_length (is_leap t.year) t.month))

first : date_of 0 ≡ record { year = 1900; month = 1; day = 1 }
unfolding is_leap year_start year_of month_length before begun month_of month_day
first = refl

pub follows : Follows
follows = (
  first,
  λ d h.
      let a = dated d (omega arith) in
      let n = next (date_of d) a.ok (omega (arith, a.sum)) in
      (date_from (next_date (date_of d)) (d + 1) n.ok (n.day ∙ ap (λ k. k + 1) a.sum)).1,
)
