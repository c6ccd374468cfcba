-- Powers of ten, and the digits of a text one by one.
use Rattle.std.proofs.Common.{◌≡◌, ℕ, suc, ◌+◌, ◌-◌, ◌*◌, ◌^◌, ◌<◌, ◌≤◌, min, true, ◌&&◌, leb, List, [], ◌∷◌, length, get_or, drop, ap, ⊎_elim, arith, pow-add, mul-le-mul_right, sym, ◌∙◌}
use Rattle.std.proofs.Math.Nat.{mul_comm, mul_assoc}
use native.Mathlib.Nat.{pow-le-pow_right}
use Rattle.std.proofs.lemmas.Bool.{and_parts, cases_lt, leb-true}
use Rattle.std.proofs.lemmas.List.{at_drop_more}
use Rattle.notation.specs.Digits.{is_digit, all_digits, value_from}

pub digit_range : (x : ℕ) → is_digit x ≡ true → (48 ≤ x) × (x ≤ 57)
digit_range x e = let p = and_parts (leb 48 x) (leb x 57) e in (leb-true 48 x p.0, leb-true x 57 p.1)

module _ (xs : List ℕ) (i : ℕ) (h : i < length xs) where
  pub digits_step : all_digits (drop i xs) ≡ (is_digit (get_or xs i 0) && all_digits (drop (i + 1) xs))
  digits_step = at_drop_more all_digits xs i 0 h

  pub value_step : (n : ℕ) → value_from n (drop i xs) ≡ value_from (n * 10 + (get_or xs i 0 - 48)) (drop (i + 1) xs)
  value_step n = at_drop_more (value_from n) xs i 0 h

-- a number only grows by more digits
value_grows : (n : ℕ) (xs : List ℕ) → n ≤ value_from n xs
value_grows n [] = omega arith
value_grows n (x ∷ xs) = omega (arith, value_grows (n * 10 + (x - 48)) xs)

-- so it may be capped on the way
pub value_capped : (n c : ℕ) (xs : List ℕ) → min (value_from (min n c) xs) c ≡ min (value_from n xs) c
value_capped n c xs =
    ⊎_elim
    (λ (l : n < c). let e : min n c ≡ n = omega arith in ap (λ k. min (value_from k xs) c) e)
    (λ (l : c ≤ n). let e : min n c ≡ c = omega arith in let f = ap (λ k. min (value_from k xs) c) e in omega (arith, f, value_grows c xs, value_grows n xs))
    (cases_lt n c)

-- so many digits write a number below that power of ten
value_below : (n : ℕ) (xs : List ℕ) → all_digits xs ≡ true → value_from n xs < (n + 1) * 10 ^ length xs
value_below n [] e = omega arith
value_below n (x ∷ xs) e =
    let p = and_parts (is_digit x) (all_digits xs) e in
    let d = digit_range x p.0 in
    let h = value_below (n * 10 + (x - 48)) xs p.1 in
    let s : length xs + 1 ≡ suc (length xs) = omega arith in
    let t : 10 ^ suc (length xs) ≡ 10 ^ length xs * 10 = rw s at (pow-add 10 (length xs) 1) in
    let k : n * 10 + (x - 48) + 1 ≤ (n + 1) * 10 = omega (arith, d) in
    let m : (n * 10 + (x - 48) + 1) * 10 ^ length xs ≤ (n + 1) * 10 * 10 ^ length xs = mul-le-mul_right (10 ^ length xs) k in
    let a : (n + 1) * 10 ^ suc (length xs) ≡ (n + 1) * 10 * 10 ^ length xs = rw t (ap (λ b. (n + 1) * b) (mul_comm (10 ^ length xs) 10) ∙ sym (mul_assoc (n + 1) 10 (10 ^ length xs))) in
    omega (arith, h, a, m)

pub value_short : (xs : List ℕ) (k : ℕ) → all_digits xs ≡ true → length xs ≤ k → value_from 0 xs < 10 ^ k
value_short xs k e l =
    let h = value_below 0 xs e in
    let p : 10 ^ length xs ≤ 10 ^ k = pow-le-pow_right (omega arith) l in
    omega (arith, h, p)
