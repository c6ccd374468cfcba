-- The dates of days, and the first days of months.
use Rattle.std.proofs.Common.{◌≡◌, ℕ, ◌+◌, ◌-◌, ◌<◌, ◌≤◌, true, leb, Some, None, refl, ap, subst, ⊎_elim, arith}
use Rattle.std.proofs.lemmas.Bool.{cases_Bool, and_from, le-leb}
use Rattle.calendar.specs.declared.date.Date.{Date}
use Rattle.calendar.specs.Years.{is_leap, year_start}
use Rattle.calendar.specs.Months.{month_length, is_month, length_at, before}
use Rattle.calendar.specs.Dates.{date_of, day_of, day_at, is_date}
use Rattle.calendar.proofs.MonthDays.{month_long}
use Rattle.calendar.proofs.Dating.{IsDate, dated, date_is, is_a_date}
use Rattle.pattern.specs.Openings.{DateIs}

pub date_here : (d : ℕ) (t : Date) → d < 109573 → Some (date_of d) ≡ Some t → DateIs d t
date_here d t h e =
    let p : date_of d ≡ t = cc in
    let a = dated d h in
    let i = a.ok in
    let y = a.year in
    let r : DateIs d (date_of d) = record {
      year_is = refl;
      month_is = refl;
      day_is = refl;
      year_low = i.year_low;
      year_high = i.year_high;
      month_low = i.month_low;
      month_high = i.month_high;
      day_low = i.day_low;
      day_high = i.day_high;
      begins = y.begins;
      ends = y.ends;
    } in
    subst (λ (u : Date). DateIs d u) p r

abbrev pub first_of : ℕ → ℕ → Date
first_of y m = record { year = y; month = m; day = 1 }

-- a month of the calendar has a first day
pub first_is : (y m : ℕ) → 1900 ≤ y → y < 2200 → 1 ≤ m → m ≤ 12 → day_at (first_of y m) ≡ Some (year_start y + before (is_leap y) (m - 1))
unfolding day_of
first_is y m a b l h =
    let i : IsDate (first_of y m) =
    record { year_low = a; year_high = b; month_low = l; month_high = h; day_low = omega arith; day_high = omega (arith, month_long (is_leap y) m) } in
    let e : year_start y + before (is_leap y) (m - 1) + (1 - 1) ≡ year_start y + before (is_leap y) (m - 1) = omega arith in
    rw (date_is (first_of y m) i) (ap (λ k. Some k) e)

-- past the calendar there is none
pub first_past : (y m : ℕ) → 2200 ≤ y → day_at (first_of y m) ≡ None
first_past y m h =
    ⊎_elim (λ t. let i = is_a_date (first_of y m) t in absurd (omega (arith, i.year_high))) (λ f. rw f) (cases_Bool (is_date (first_of y m)))

pub length_here : (y m r : ℕ) → 1 ≤ m → m ≤ 12 → length_at y m ≡ Some r → r ≡ month_length (is_leap y) m
length_here y m r l h e =
    let t : is_month m ≡ true = and_from (leb 1 m) (leb m 12) (le-leb 1 m l) (le-leb m 12 h) in
    let f : Some (month_length (is_leap y) m) ≡ Some r = rw t at e in
    cc
