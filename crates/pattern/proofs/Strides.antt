-- The next number that leaves a given rest.
use Rattle.std.proofs.Common.{◌≡◌, ℕ, ◌+◌, ◌-◌, ◌%◌, ◌<◌, ◌≤◌, false, eqb, sym, ◌∙◌, ⊎_elim, mod-lt, mod-eq_of_lt, arith}
use native.Mathlib.Nat.{mod-eq-sub-mod, mod-add-mod}
use Rattle.std.proofs.lemmas.Bool.{cases_lt, ne_eqb}

-- j steps past n, within the stride
near : (n j i : ℕ) → n % i + j < i → (n + j) % i ≡ n % i + j
near n j i h = sym (mod-add-mod n i j) ∙ mod-eq_of_lt h

-- j steps past n, within the next stride
far : (n j i : ℕ) → i ≤ n % i + j → n % i + j < i + i → (n + j) % i ≡ n % i + j - i
far n j i l h = sym (mod-add-mod n i j) ∙ mod-eq-sub-mod l ∙ mod-eq_of_lt (let g : n % i + j - i < i = omega arith in g)

-- g is the least from n on that leaves b
pub record Stride (n b i g : ℕ) : Type 0 where
  pub low : n ≤ g
  pub high : g < n + i
  pub rest : g % i ≡ b
  pub passed : (k : ℕ) → n ≤ k → k < g → eqb (k % i) b ≡ false

pub stride_near : (n b i : ℕ) → 0 < i → b < i → n % i ≤ b → Stride n b i (n + (b - n % i))
stride_near n b i p q l = record {
  low = omega arith;
  high = omega arith;
  rest = near n (b - n % i) i (omega arith) ∙ (let e : n % i + (b - n % i) ≡ b = omega arith in e);
  passed = λ k h m.
      let e : n + (k - n) ≡ k = omega arith in
      let r : k % i ≡ n % i + (k - n) = rw e at (near n (k - n) i (omega arith)) in
      ne_eqb (k % i) b (λ z. omega arith);
}

pub stride_far : (n b i : ℕ) → 0 < i → b < i → b < n % i → Stride n b i (n + (b + i - n % i))
stride_far n b i p q l =
    let a : n % i < i = mod-lt n p in
    record {
      low = omega arith;
      high = omega arith;
      rest = far n (b + i - n % i) i (omega arith) (omega arith) ∙ (let e : n % i + (b + i - n % i) - i ≡ b = omega arith in e);
      passed = λ k h m.
          let e : n + (k - n) ≡ k = omega arith in
          ⊎_elim
          (λ c. let r : k % i ≡ n % i + (k - n) = rw e at (near n (k - n) i c) in ne_eqb (k % i) b (λ z. omega arith))
          (λ c. let r : k % i ≡ n % i + (k - n) - i = rw e at (far n (k - n) i c (omega arith)) in ne_eqb (k % i) b (λ z. omega arith))
          (cases_lt (n % i + (k - n)) i);
    }
