-- Periods and their first days.
use Rattle.std.proofs.Common.{◌≡◌, ℕ, ◌+◌, ◌-◌, ◌*◌, ◌/◌, ◌%◌, ◌<◌, ◌≤◌, true, false, Some, None, Option, leb, sym, refl, ap, ◌∙◌, subst, ⊎_elim, arith}
use Rattle.std.proofs.lemmas.Bool.{cases_lt, cases_Bool, le-leb, lt-leb}
use Rattle.std.specs.Bool.{then_some}
use Rattle.calendar.specs.declared.date.Date.{Date}
use Rattle.calendar.specs.Years.{is_leap, year_length, year_start, year_of}
use Rattle.calendar.specs.Months.{before}
use Rattle.calendar.specs.Dates.{month_of, day_of}
use Rattle.calendar.proofs.YearDays.{in_year, one_year, years_over, last_year}
use Rattle.calendar.proofs.MonthDays.{before_rise, before_all, before_none, month_long}
use Rattle.calendar.proofs.Dating.{IsDate, dated, date_from}
use Rattle.recurrence.specs.declared.parts.Frequency.{Frequency}
use Rattle.recurrence.specs.declared.parts.Frequency.TheVariants.{Daily, Weekly, Monthly, Yearly}
use Rattle.pattern.specs.Periods.{period}
use Rattle.pattern.specs.Openings.{Opens, OpensIf, least, most}

years_rise : (y z : ℕ) → 1900 ≤ y → y ≤ z → year_start y ≤ year_start z
years_rise y z h l = ⊎_elim (λ (g : y < z). omega (arith, years_over y z h g)) (λ (g : z ≤ y). let e : y ≡ z = omega arith in rw e (omega arith)) (cases_lt y z)

year_long : (y : ℕ) → 0 < year_length y
year_long y = ⊎_elim (λ t. rw t (omega arith)) (λ f. rw f (omega arith)) (cases_Bool (is_leap y))

begun_year : (y d : ℕ) → d < 109573 → 1900 ≤ y → y ≤ year_of d → year_start y ≤ d
begun_year y d h l m = let i = in_year d h in omega (arith, years_rise y (year_of d) l m, i.begins)

coming_year : (y d : ℕ) → d < 109573 → 1900 ≤ y → year_of d < y → d < year_start y
coming_year y d h l m = let i = in_year d h in omega (arith, years_over (year_of d) y i.low m, i.ends)

is_in_range : (y : ℕ) → 1900 ≤ y → year_start y < 109573 → y < 2200
is_in_range y h l = ⊎_elim (λ g. g) (λ g. absurd (omega (arith, years_rise 2200 y (omega arith) g, last_year))) (cases_lt y 2200)

opens_year : (w y : ℕ) → 1900 ≤ y → Opens Yearly w y (year_start y)
opens_year w y h = record {
  under = λ k b l. ⊎_elim (λ g. g) (λ g. absurd (omega (arith, begun_year y k b h g))) (cases_lt (year_of k) y);
  over = λ k b l. ⊎_elim (λ g. absurd (omega (arith, coming_year y k b h g))) (λ g. g) (cases_lt (year_of k) y);
  is = λ l. one_year (year_start y) (year_of (year_start y)) y (in_year (year_start y) l)
      (record { low = h; high = is_in_range y h l; begins = omega arith; ends = omega (arith, year_long y) });
}

module _ (w y m : ℕ) (h : 1900 ≤ y) (l : m < 12) where
  month_under : (k : ℕ) → k < 109573 → k < year_start y + before (is_leap y) m → 12 * year_of k + month_of k < 12 * y + m + 1
  month_under k b u =
      let d = dated k b in
      let i = d.year in
      let j = d.month in
      ⊎_elim (λ g. omega (arith, j.high))
      (λ g.
      ⊎_elim
      (λ v. absurd (omega (arith, years_over y (year_of k) h v, i.begins, before_rise (is_leap y) m 12 (omega arith), before_all (is_leap y))))
      (λ v.
      let e : year_of k ≡ y = omega arith in
      let jb : before (is_leap y) (month_of k - 1) ≤ k - year_start y = rw e at j.begins in
      let iy : year_start y ≤ k = rw e at i.begins in
      ⊎_elim
      (λ z. absurd (omega (arith, before_rise (is_leap y) m (month_of k - 1) (omega arith), jb, iy)))
      (λ z. omega arith)
      (cases_lt m (month_of k)))
      (cases_lt y (year_of k)))
      (cases_lt (year_of k) y)

  month_over : (k : ℕ) → k < 109573 → year_start y + before (is_leap y) m ≤ k → 12 * y + m + 1 ≤ 12 * year_of k + month_of k
  month_over k b u =
      let d = dated k b in
      let j = d.month in
      ⊎_elim (λ g. absurd (omega (arith, coming_year y k b h g)))
      (λ g.
      ⊎_elim (λ v. omega (arith, j.low))
      (λ v.
      let e : year_of k ≡ y = omega arith in
      let je : k - year_start y < before (is_leap y) (month_of k) = rw e at j.ends in
      ⊎_elim
      (λ z. omega arith)
      (λ z. absurd (omega (arith, before_rise (is_leap y) (month_of k) m z, je)))
      (cases_lt m (month_of k)))
      (cases_lt y (year_of k)))
      (cases_lt (year_of k) y)

  month_is : year_start y + before (is_leap y) m < 109573 → 12 * year_of (year_start y + before (is_leap y) m) + month_of (year_start y + before (is_leap y) m) ≡ 12 * y + m + 1
  unfolding day_of
  month_is u =
      let r = is_in_range y h (omega arith) in
      let t : Date = record { year = y; month = m + 1; day = 1 } in
      let i : IsDate (record { year = y; month = m + 1; day = 1 }) =
      record { year_low = h; year_high = r; month_low = omega arith; month_high = omega arith; day_low = omega arith; day_high = omega (arith, month_long (is_leap y) (m + 1)) } in
      let e : m + 1 - 1 ≡ m = omega arith in
      let z : year_start y + before (is_leap y) (m + 1 - 1) + (1 - 1) ≡ year_start y + before (is_leap y) m = rw e (omega arith) in
      let o = (date_from (record { year = y; month = m + 1; day = 1 }) (year_start y + before (is_leap y) m) i z).1 in
      let p : year_of (year_start y + before (is_leap y) m) ≡ y = ap (λ (u : Date). u.year) o in
      let q : month_of (year_start y + before (is_leap y) m) ≡ m + 1 = ap (λ (u : Date). u.month) o in
      omega arith

opens_month : (w q y m : ℕ) → y ≡ (q - 1) / 12 → m ≡ (q - 1) % 12 → 22801 ≤ q → Opens Monthly w q (year_start y + before (is_leap y) m)
opens_month w q y m ey em h =
    let a : 1900 ≤ y = omega arith in
    let b : m < 12 = omega arith in
    let e : 12 * y + m + 1 ≡ q = omega arith in
    record {
      under = λ k p l. rw e at (month_under w y m a b k p l);
      over = λ k p l. rw e at (month_over w y m a b k p l);
      is = λ l. month_is w y m a b l ∙ e;
    }

-- the numbers of the periods
pub floor : (f : Frequency) (w d : ℕ) → d < 109573 → least f ≤ period f w d + 1
floor Daily w d h = omega arith
floor Weekly w d h = omega arith
floor Monthly w d h = let a = dated d h in omega (arith, a.year.low, a.month.low)
floor Yearly w d h = omega (arith, (in_year d h).low)

pub ceiling : (f : Frequency) (w d : ℕ) → d < 109573 → period f w d + 999 ≤ most f
ceiling Daily w d h = omega arith
ceiling Weekly w d h = omega arith
ceiling Monthly w d h = let a = dated d h in omega (arith, a.year.high, a.month.high)
ceiling Yearly w d h = omega (arith, (in_year d h).high)

-- days ascend, and so do their periods
from_opens : (f : Frequency) (w a b r : ℕ) → Opens f w (period f w a) r → a ≤ b → b < 109573 → period f w a ≤ period f w b
from_opens f w a b r o l h =
    ⊎_elim (λ g. absurd (let z : period f w a < period f w a = o.under a (omega arith) g in omega arith))
    (λ g. o.over b h (omega arith)) (cases_lt a r)

pub rises : (f : Frequency) (w a b : ℕ) → a ≤ b → b < 109573 → period f w a ≤ period f w b
rises Daily w a b l h = l
rises Weekly w a b l h = omega arith
rises Monthly w a b l h =
    let d = dated a (omega arith) in
    from_opens Monthly w a b _ (opens_month w (period Monthly w a) ((period Monthly w a - 1) / 12) ((period Monthly w a - 1) % 12) refl refl (omega (arith, d.year.low, d.month.low))) l h
rises Yearly w a b l h = from_opens Yearly w a b (year_start (year_of a)) (opens_year w (year_of a) (in_year a (omega arith)).low) l h

-- a day past the calendar is none
opens_within : (f : Frequency) (w q n : ℕ) → Opens f w q n → OpensIf f w q (then_some (leb n 109572) n)
opens_within f w q n o =
    ⊎_elim
    (λ l. let b : leb n 109572 ≡ true = le-leb n 109572 (omega arith) in rw b o)
    (λ g. let b : leb n 109572 ≡ false = lt-leb n 109572 (omega arith) in rw b (λ k h. o.under k h (omega arith)))
    (cases_lt n 109573)

pub day_opens : (w q : ℕ) (r : Option ℕ) → r ≡ then_some (leb q 109572) q → OpensIf Daily w q r
day_opens w q r e =
    subst (λ (o : Option ℕ). OpensIf Daily w q o) (sym e)
    (opens_within Daily w q q (record { under = λ k b l. l; over = λ k b l. l; is = λ l. refl }))

pub week_opens : (w q n : ℕ) (r : Option ℕ) → 1 ≤ q → w ≤ 6 → n ≡ 7 * q + w - 7 → r ≡ then_some (leb n 109572) n → OpensIf Weekly w q r
week_opens w q n r h l en e =
    subst (λ (o : Option ℕ). OpensIf Weekly w q o) (sym e)
    (opens_within Weekly w q n (record { under = λ k b u. omega arith; over = λ k b u. omega arith; is = λ u. omega arith }))

-- the first day of a month, as it is found
pub month_opens : (w q y m : ℕ) (r : Option ℕ) → y ≡ (q - 1) / 12 → m ≡ (q - 1) % 12 + 1 → 22801 ≤ q
    → (y < 2200 → r ≡ Some (year_start y + before (is_leap y) (m - 1))) → (2200 ≤ y → r ≡ None) → OpensIf Monthly w q r
month_opens w q y m r ey em h there past =
    ⊎_elim
    (λ l. subst (λ (o : Option ℕ). OpensIf Monthly w q o) (sym (there l)) (opens_month w q y (m - 1) ey (omega arith) h))
    (λ l. subst (λ (o : Option ℕ). OpensIf Monthly w q o) (sym (past l)) (λ k b. let d = dated k b in omega (arith, d.year.high, d.month.high)))
    (cases_lt y 2200)

pub year_opens : (w y : ℕ) (r : Option ℕ) → 1900 ≤ y → (y < 2200 → r ≡ Some (year_start y + before (is_leap y) 0)) → (2200 ≤ y → r ≡ None) → OpensIf Yearly w y r
year_opens w y r h there past =
    ⊎_elim
    (λ l.
    let e : year_start y ≡ year_start y + before (is_leap y) 0 = omega (arith, before_none (is_leap y)) in
    subst (λ (o : Option ℕ). OpensIf Yearly w y o) (ap (λ n. Some n) e ∙ sym (there l)) (opens_year w y h))
    (λ l. subst (λ (o : Option ℕ). OpensIf Yearly w y o) (sym (past l)) (λ k b. let i = in_year k b in omega (arith, i.high)))
    (cases_lt y 2200)
