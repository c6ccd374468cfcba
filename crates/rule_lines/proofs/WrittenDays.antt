-- A day and a minute as UNTIL has them are read back.
use Rattle.std.proofs.Common.{◌≡◌, ℕ, ◌+◌, ◌-◌, ◌*◌, ◌/◌, ◌%◌, ◌<◌, ◌≤◌, List, [], ◌∷◌, ◌++◌, Ok, codes, sym, refl, ap, ◌∙◌, subst, arith}
use Rattle.std.specs.List.{AllByRecursion}
use Rattle.std.proofs.ByRecursion.{All-append, All-weaker}
use Rattle.calendar.specs.declared.date.Date.{Date}
use Rattle.calendar.specs.Dates.{date_of, day_at}
use Rattle.calendar.specs.Years.{is_leap}
use Rattle.calendar.proofs.Dating.{dated}
use Rattle.calendar.proofs.DateLaws.{inverse, some_date}
use Rattle.calendar.proofs.MonthDays.{month_long}
use Rattle.notation.specs.Dates.{date_named, moment_named}
use Rattle.notation.specs.Digits.{value_from}
use Rattle.notation.specs.Spelling.{Writes, SpellsMoment}
use Rattle.notation.proofs.Moments.{moment_is_named}
use Rattle.page.specs.Lines.{two, four, date_text, clock_text}
use Rattle.rule_lines.proofs.WrittenNumbers.{Plain}

abbrev Digit : ℕ → Type 0
Digit x = (48 ≤ x) × (x ≤ 57)

two_digits : (n : ℕ) → AllByRecursion Digit (two n)
two_digits n = ((omega arith, omega arith), ((omega arith, omega arith), tt))

four_digits : (n : ℕ) → AllByRecursion Digit (four n)
four_digits n = ((omega arith, omega arith), ((omega arith, omega arith), two_digits n))

two_value : (m n : ℕ) → n < 100 → value_from m (two n) ≡ m * 100 + n
two_value m n h = omega arith

four_value : (m n : ℕ) → n < 10000 → value_from m (four n) ≡ m * 10000 + n
four_value m n h =
    let a : n / 1000 % 10 ≡ n / 1000 = omega arith in
    let b : n / 100 ≡ n / 1000 * 10 + n / 100 % 10 = omega arith in
    let c : n ≡ n / 100 * 100 + (n / 10 % 10 * 10 + n % 10) = omega arith in
    omega arith

two_first : (n : ℕ) → n < 100 → value_from 0 (two n) ≡ n
two_first n h = omega (arith, two_value 0 n h)

four_first : (n : ℕ) → n < 10000 → value_from 0 (four n) ≡ n
four_first n h = omega (arith, four_value 0 n h)

value_append : (m : ℕ) (xs ys : List ℕ) → value_from m (xs ++ ys) ≡ value_from (value_from m xs) ys
value_append m [] ys = refl
value_append m (x ∷ xs) ys = value_append (m * 10 + (x - 48)) xs ys

-- the number that a date's digits write
abbrev date_number : Date → ℕ
date_number t = (t.year * 100 + t.month) * 100 + t.day

date_writes : (t : Date) → t.year < 10000 → t.month < 100 → t.day < 100 → Writes 8 8 (date_text t) (date_number t)
unfolding date_text
date_writes t y m d = record {
  enough = omega arith;
  few = omega arith;
  digits = All-append Digit (four t.year) (two t.month ++ two t.day) (four_digits t.year) (All-append Digit (two t.month) (two t.day) (two_digits t.month) (two_digits t.day));
  value =
      value_append 0 (four t.year) (two t.month ++ two t.day)
      ∙ ap (λ k. value_from k (two t.month ++ two t.day)) (four_first t.year y)
      ∙ value_append t.year (two t.month) (two t.day)
      ∙ ap (λ k. value_from k (two t.day)) (two_value t.year t.month m)
      ∙ two_value (t.year * 100 + t.month) t.day d;
}

date_is_number : (t : Date) → t.month < 100 → t.day < 100 → date_named (date_number t) ≡ t
date_is_number t m d =
    let y : date_number t / 10000 ≡ t.year = omega arith in
    let q : date_number t / 100 ≡ t.year * 100 + t.month = omega arith in
    let k : (t.year * 100 + t.month) % 100 ≡ t.month = omega arith in
    let e : date_number t % 100 ≡ t.day = omega arith in
    λ j. record { year = y j; month = (ap (λ z. z % 100) q ∙ k) j; day = e j }

clock_writes : (c : ℕ) → c < 1440 → Writes 6 6 (clock_text c ++ codes "00") (c / 60 * 10000 + c % 60 * 100)
unfolding clock_text
clock_writes c h =
    let a : c / 60 < 100 = omega arith in
    let b : c % 60 < 100 = omega arith in
    record {
      enough = omega arith;
      few = omega arith;
      digits = All-append Digit (two (c / 60) ++ two (c % 60)) (codes "00") (All-append Digit (two (c / 60)) (two (c % 60)) (two_digits (c / 60)) (two_digits (c % 60))) ((omega arith, omega arith), ((omega arith, omega arith), tt));
      value =
          value_append 0 (two (c / 60) ++ two (c % 60)) (codes "00")
          ∙ ap (λ k. value_from k (codes "00")) (value_append 0 (two (c / 60)) (two (c % 60)) ∙ ap (λ k. value_from k (two (c % 60))) (two_first (c / 60) a) ∙ two_value (c / 60) (c % 60) b)
          ∙ omega arith;
    }

abbrev pub moment_text : ℕ → ℕ → List ℕ
moment_text d c = date_text (date_of d) ++ (84 ∷ (clock_text c ++ codes "00"))

spells : (d c : ℕ) → d < 109573 → c < 1440 → SpellsMoment (moment_text d c) (record { day = d; clock = c })
spells d c h k =
    let i = (dated d h).ok in
    let l : (date_of d).day < 100 = omega (arith, i.day_high, month_long (is_leap (date_of d).year) (date_of d).month) in
    record {
      date = date_text (date_of d);
      time = clock_text c ++ codes "00";
      day = date_number (date_of d);
      hour = c / 60;
      minute = c % 60;
      text = refl;
      dated = date_writes (date_of d) (omega (arith, i.year_high)) (omega (arith, i.month_high)) l;
      timed = clock_writes c k;
      exists = ap day_at (date_is_number (date_of d) (omega (arith, i.month_high)) l) ∙ (inverse d (date_of d)).0 (some_date d h);
      hours = omega arith;
      minutes = omega arith;
      clock = omega arith;
    }

pub moment_read : (d c : ℕ) → d < 109573 → c < 1440 → moment_named (moment_text d c) ≡ Ok (record { day = d; clock = c })
moment_read d c h k = moment_is_named (moment_text d c) _ (spells d c h k)

pub moment_plain : (d c : ℕ) → d < 109573 → c < 1440 → AllByRecursion Plain (moment_text d c)
moment_plain d c h k =
    let s = spells d c h k in
    subst (AllByRecursion Plain) (sym s.text)
    (All-append Plain s.date (84 ∷ s.time) (plain s.date s.dated.digits) (((λ e. omega (arith, e)), (λ e. omega (arith, e))), plain s.time s.timed.digits))
  where
    plain : (xs : List ℕ) → AllByRecursion Digit xs → AllByRecursion Plain xs
    plain xs a = All-weaker Digit Plain (λ y r. ((λ e. omega (arith, r.0, e)), (λ e. omega (arith, r.1, e)))) xs a
