-- Dates and their days.
use Rattle.std.proofs.Common.{◌≡◌, ℕ, ◌+◌, ◌-◌, ◌<◌, ◌≤◌, true, ◌&&◌, leb, refl, arith}
use Rattle.std.proofs.lemmas.Bool.{and_parts, and_from, leb-true, le-leb}
use Rattle.calendar.specs.declared.date.Date.{Date}
use Rattle.calendar.specs.Years.{is_leap, year_start, year_of}
use Rattle.calendar.specs.Months.{is_month, month_length, before, begun}
use Rattle.calendar.specs.Dates.{month_of, month_day, date_of, day_of, is_date}
use Rattle.calendar.proofs.YearDays.{InYear, in_year, one_year, years_over, last_year}
use Rattle.calendar.proofs.MonthDays.{InMonth, is_in_month, one_month, before_all, before_rise, month_back}

-- there is a date t
pub record IsDate (t : Date) : Type 0 where
  pub year_low : 1900 ≤ t.year
  pub year_high : t.year < 2200
  pub month_low : 1 ≤ t.month
  pub month_high : t.month ≤ 12
  pub day_low : 1 ≤ t.day
  pub day_high : t.day ≤ month_length (is_leap t.year) t.month

pub date_is : (t : Date) → IsDate t → is_date t ≡ true
unfolding is_date
date_is t i =
    and_from (leb 1900 t.year && leb t.year 2199) _
    (and_from (leb 1900 t.year) _ (le-leb 1900 t.year i.year_low) (le-leb t.year 2199 (omega (arith, i.year_high))))
    (and_from (is_month t.month) _
    (and_from (leb 1 t.month) _ (le-leb 1 t.month i.month_low) (le-leb t.month 12 i.month_high))
    (and_from (leb 1 t.day) _ (le-leb 1 t.day i.day_low) (le-leb t.day (month_length (is_leap t.year) t.month) i.day_high)))

pub is_a_date : (t : Date) → is_date t ≡ true → IsDate t
unfolding is_date
is_a_date t e =
    let a = and_parts (leb 1900 t.year && leb t.year 2199) _ e in
    let y = and_parts (leb 1900 t.year) _ a.0 in
    let b = and_parts (is_month t.month) _ a.1 in
    let m = and_parts (leb 1 t.month) _ b.0 in
    let n = and_parts (leb 1 t.day) _ b.1 in
    record {
      year_low = leb-true 1900 t.year y.0;
      year_high = omega (arith, leb-true t.year 2199 y.1);
      month_low = leb-true 1 t.month m.0;
      month_high = leb-true t.month 12 m.1;
      day_low = leb-true 1 t.day n.0;
      day_high = leb-true t.day (month_length (is_leap t.year) t.month) n.1;
    }

-- the date t is that of the day d
pub record Dated (t : Date) (d : ℕ) : Type 0 where
  pub ok : IsDate t
  pub year : InYear d t.year
  pub month : InMonth (is_leap t.year) (d - year_start t.year) t.month
  pub sum : day_of t ≡ d

-- each day has its date
pub dated : (d : ℕ) → d < 109573 → Dated (date_of d) d
unfolding month_of month_day day_of
dated d h =
    let y = in_year d h in
    let m : InMonth (is_leap (year_of d)) (d - year_start (year_of d)) (begun (is_leap (year_of d)) (d - year_start (year_of d)) 12) =
    is_in_month (is_leap (year_of d)) (d - year_start (year_of d)) (omega (arith, y.begins, y.ends)) in
    let b = month_back (is_leap (year_of d)) (begun (is_leap (year_of d)) (d - year_start (year_of d)) 12) m.low in
    record {
      ok = record {
        year_low = y.low;
        year_high = y.high;
        month_low = m.low;
        month_high = m.high;
        day_low = omega arith;
        day_high = omega (arith, m.begins, m.ends, b);
      };
      year = y;
      month = m;
      sum = omega (arith, m.begins, y.begins);
    }

-- each date has its day
pub dating : (t : Date) → IsDate t → Dated t (day_of t)
unfolding day_of
dating t i =
    let b = month_back (is_leap t.year) t.month i.month_low in
    let r = before_rise (is_leap t.year) t.month 12 i.month_high in
    let e : day_of t - year_start t.year ≡ before (is_leap t.year) (t.month - 1) + (t.day - 1) = omega arith in
    record {
      ok = i;
      year = record {
        low = i.year_low;
        high = i.year_high;
        begins = omega arith;
        ends = omega (arith, i.day_low, i.day_high, before_all (is_leap t.year));
      };
      month = rw e (record {
        low = i.month_low;
        high = i.month_high;
        begins = omega arith;
        ends = omega (arith, i.day_low, i.day_high);
      });
      sum = refl;
    }

pub early : (t : Date) (d : ℕ) → Dated t d → d < 109573
early t d a =
    let i = a.year in omega (arith, years_over t.year 2200 i.low i.high, i.ends, last_year)

-- and only one
one_date : (t : Date) (d : ℕ) → Dated t d → date_of d ≡ t
unfolding day_of
one_date t d a =
    let b = dated d (early t d a) in
    let p : year_of d ≡ t.year = one_year d (year_of d) t.year b.year a.year in
    let c : InMonth (is_leap t.year) (d - year_start t.year) (month_of d) = rw p at b.month in
    let q : month_of d ≡ t.month = one_month (is_leap t.year) (d - year_start t.year) (month_of d) t.month c a.month in
    let s : year_start t.year + before (is_leap t.year) (t.month - 1) + (month_day d - 1) ≡ d = rw (p, q) at b.sum in
    let r : month_day d ≡ t.day = omega (arith, s, a.sum, a.ok.day_low, b.ok.day_low) in
    λ j. record { year = p j; month = q j; day = r j }

-- the date of the day of a date
pub date_from : (t : Date) (d : ℕ) → IsDate t → day_of t ≡ d → (d < 109573) × (date_of d ≡ t)
date_from t d i e = let a : Dated t d = rw e at (dating t i) in (early t d a, one_date t d a)
