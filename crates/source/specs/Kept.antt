-- What a filter leaves where all pass, where none passes, and behind another filter.
use Rattle.std.specs.Prelude.{◌≡◌, ℕ, Bool, true, false, cond, List, [], ◌∷◌, filter, refl}
use Rattle.std.proofs.Common.{ap, ⊎_elim}
use Rattle.std.specs.List.{AllByRecursion}
use Rattle.std.proofs.lemmas.Bool.{both_ways, cases_Bool}

pub kept_all : (p : ℕ → Bool) (xs : List ℕ) → AllByRecursion (λ x. p x ≡ true) xs → filter p xs ≡ xs
kept_all p [] a = refl
kept_all p (x ∷ xs) a = rw a.0 (ap (λ ys. x ∷ ys) (kept_all p xs a.1))

pub kept_none : (p : ℕ → Bool) (xs : List ℕ) → AllByRecursion (λ x. p x ≡ false) xs → filter p xs ≡ []
kept_none p [] a = refl
kept_none p (x ∷ xs) a = rw a.0 (kept_none p xs a.1)

-- a second filter that passes what the first passes changes nothing, wherever the first is put
pub kept_within : (p q : ℕ → Bool) (xs : List ℕ) → AllByRecursion (λ x. p x ≡ true → q x ≡ true) xs → filter p (filter q xs) ≡ filter p xs
kept_within p q [] a = refl
kept_within p q (x ∷ xs) a =
    ⊎_elim
    (λ (t : q x ≡ true). rw t (ap (λ (ys : List ℕ). cond (p x) (x ∷ ys) ys) (kept_within p q xs a.1)))
    (λ (f : q x ≡ false).
    ⊎_elim
    (λ (u : p x ≡ true). absurd (both_ways (q x) f (a.0 u)))
    (λ (u : p x ≡ false). rw (f, u) (kept_within p q xs a.1))
    (cases_Bool (p x)))
    (cases_Bool (q x))
