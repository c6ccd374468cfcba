-- Decimals are read back, and have no mark in them.
use Rattle.std.proofs.Common.{◌≡◌, ℕ, ◌^◌, ◌<◌, ◌≤◌, min, true, List, [], ◌∷◌, length, Some, decimal, refl, ap, ◌∙◌, arith, rules}
use Rattle.std.specs.Option.{option_map}
use Rattle.std.specs.List.{AllByRecursion}
use Rattle.std.proofs.lemmas.Fmt.{decimal_nonempty, digits_decimal, length-decimal-le, digits_value-decimal}
use Rattle.std.proofs.lemmas.Str.Parse.{IsNumeralModel, numerals_by_fold}
use Rattle.std.proofs.lemmas.Bool.{and_parts, le-leb, ne_eqb}
use Rattle.notation.specs.Digits.{is_digit, all_digits, value_from, numeral, capped}
use Rattle.notation.proofs.Values.{digit_range}
use Rattle.rule_text.specs.Entries.{signed}
use Rattle.recurrence.specs.declared.parts.Ordinal.TheVariants.{FromStart, FromEnd}

-- neither a comma nor a semicolon
abbrev pub Plain : ℕ → Type 0
Plain y = (y ≡ 44 → ⊥) × (y ≡ 59 → ⊥)

own : IsNumeralModel (λ ds. all_digits ds ≡ true) (value_from 0)
own = numerals_by_fold _ (search rules) value_from (search rules)

pub digits_plain : (xs : List ℕ) → all_digits xs ≡ true → AllByRecursion Plain xs
digits_plain [] e = tt
digits_plain (x ∷ xs) e =
    let p = and_parts (is_digit x) (all_digits xs) e in
    let r = digit_range x p.0 in
    (((λ h. omega (arith, r.0)), (λ h. omega (arith, r.1))), digits_plain xs p.1)

module _ (n : ℕ) (h : n < 2 ^ 64) where
  pub decimal_digits : all_digits (decimal n) ≡ true
  decimal_digits = digits_decimal own n h

  pub decimal_value : value_from 0 (decimal n) ≡ n
  decimal_value = digits_value-decimal own n h

  pub decimal_plain : AllByRecursion Plain (decimal n)
  decimal_plain = digits_plain (decimal n) decimal_digits

pub decimal_short : (n : ℕ) → n < 100 → numeral 1 2 (decimal n) ≡ Some n
decimal_short n h =
    rw (le-leb 1 (length (decimal n)) (decimal_nonempty n (omega arith)), le-leb (length (decimal n)) 2 (length-decimal-le 2 n (omega arith) (omega arith) (omega arith)), decimal_digits n (omega arith))
    (ap (λ k. Some k) (decimal_value n (omega arith)))

pub decimal_capped : (n : ℕ) → n ≤ 10000 → capped (decimal n) ≡ Some n
decimal_capped n h =
    let e : min n 100000 ≡ n = omega arith in
    rw (le-leb 1 (length (decimal n)) (decimal_nonempty n (omega arith)), decimal_digits n (omega arith), decimal_value n (omega arith)) (ap (λ k. Some k) e)

-- without a sign
unsigned : (ds : List ℕ) → all_digits ds ≡ true → 0 < length ds → signed ds ≡ option_map FromStart (numeral 1 2 ds)
unsigned [] e h = absurd (omega arith)
unsigned (x ∷ xs) e h =
    let r = digit_range x (and_parts (is_digit x) (all_digits xs) e).0 in
    rw (ne_eqb x 45 (λ q. omega (arith, r.0)), ne_eqb x 43 (λ q. omega (arith, r.0))) refl

module _ (n : ℕ) (h : n < 100) where
  pub from_start : signed (decimal n) ≡ Some (FromStart n)
  from_start = unsigned (decimal n) (decimal_digits n (omega arith)) (decimal_nonempty n (omega arith)) ∙ ap (option_map FromStart) (decimal_short n h)

  pub from_end : signed (45 ∷ decimal n) ≡ Some (FromEnd n)
  from_end = ap (option_map FromEnd) (decimal_short n h)
