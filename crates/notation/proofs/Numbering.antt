-- Numerals by their digits.
use Rattle.std.proofs.Common.{◌≡◌, ℕ, ◌^◌, cond, min, IfSome, ◌<◌, ◌≤◌, true, false, ◌&&◌, leb, List, [], ◌∷◌, length, Some, None, Option, refl, ap, ⊎_elim, arith}
use native.Mathlib.Nat.{pow-le-pow_right}
use Rattle.std.specs.List.{AllByRecursion}
use Rattle.std.proofs.ByRecursion.{All-weaker}
use Rattle.std.proofs.lemmas.Bool.{and_parts, and_from, cases_Bool, leb-true, le-leb}
use Rattle.notation.specs.Digits.{is_digit, all_digits, value_from, is_numeral, numeral}
use Rattle.notation.specs.Spelling.{Writes}
use Rattle.notation.proofs.Values.{digit_range, value_short}

digits_all : (xs : List ℕ) → all_digits xs ≡ true → AllByRecursion (λ x. (48 ≤ x) × (x ≤ 57)) xs
digits_all [] e = tt
digits_all (x ∷ xs) e = let p = and_parts (is_digit x) (all_digits xs) e in (digit_range x p.0, digits_all xs p.1)

digits_are_all : (xs : List ℕ) → AllByRecursion (λ x. (48 ≤ x) × (x ≤ 57)) xs → all_digits xs ≡ true
digits_are_all [] a = refl
digits_are_all (x ∷ xs) a = and_from (is_digit x) (all_digits xs) (and_from (leb 48 x) (leb x 57) (le-leb 48 x a.0.0) (le-leb x 57 a.0.1)) (digits_are_all xs a.1)

pub writes_from : (least most : ℕ) (xs : List ℕ) (n : ℕ) → numeral least most xs ≡ Some n → Writes least most xs n
writes_from least most xs n e =
    ⊎_elim
    (λ (t : is_numeral least most xs ≡ true).
    let p = and_parts (leb least (length xs) && leb (length xs) most) (all_digits xs) t in
    let q = and_parts (leb least (length xs)) (leb (length xs) most) p.0 in
    let v : ◌≡◌ {A = Option ℕ} (Some (value_from 0 xs)) (Some n) = rw t at e in
    record { enough = leb-true least (length xs) q.0; few = leb-true (length xs) most q.1; digits = digits_all xs p.1; value = cc })
    (λ (f : is_numeral least most xs ≡ false). let z : ◌≡◌ {A = Option ℕ} None (Some n) = rw f at e in let w : ◌≡◌ {A = ℕ} 0 1 = cc in absurd (omega arith))
    (cases_Bool (is_numeral least most xs))

pub numeral_from : (least most : ℕ) (xs : List ℕ) (n : ℕ) → Writes least most xs n → numeral least most xs ≡ Some n
numeral_from least most xs n w =
    rw (le-leb least (length xs) w.enough, le-leb (length xs) most w.few, digits_are_all xs w.digits) (ap (λ k. Some k) w.value)

-- of so few digits the number is never too large
pub numeral_fits : (least most : ℕ) (xs : List ℕ) → least ≤ length xs → length xs ≤ most → most ≤ 9
    → (cond (all_digits xs) (Some (min (value_from 0 xs) 4294967295)) None ≡ numeral least most xs) × IfSome (numeral least most xs) (λ n. n < 10 ^ most)
numeral_fits least most xs l h k =
    ⊎_elim
    (λ (t : all_digits xs ≡ true).
    let v = value_short xs most t h in
    let n : 10 ^ most ≤ 10 ^ 9 = pow-le-pow_right (omega arith) k in
    rw (le-leb least (length xs) l, le-leb (length xs) most h, t) (ap (λ n. Some n) (let m : min (value_from 0 xs) 4294967295 ≡ value_from 0 xs = omega (arith, v, n) in m), v))
    (λ (f : all_digits xs ≡ false). rw (le-leb least (length xs) l, le-leb (length xs) most h, f) (refl, tt))
    (cases_Bool (all_digits xs))

-- digits lack every other octet
pub digits_lack : (x : ℕ) (xs : List ℕ) → 57 < x → AllByRecursion (λ y. (48 ≤ y) × (y ≤ 57)) xs → AllByRecursion (λ y. y ≡ x → ⊥) xs
digits_lack x xs h a = All-weaker (λ y. (48 ≤ y) × (y ≤ 57)) (λ y. y ≡ x → ⊥) (λ y r e. omega (arith, r.1, e)) xs a

pub digits_lack_slash : (xs : List ℕ) → AllByRecursion (λ y. (48 ≤ y) × (y ≤ 57)) xs → AllByRecursion (λ y. y ≡ 47 → ⊥) xs
digits_lack_slash xs a = All-weaker (λ y. (48 ≤ y) × (y ≤ 57)) (λ y. y ≡ 47 → ⊥) (λ y r e. omega (arith, r.0, e)) xs a
