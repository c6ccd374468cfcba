-- What holds of every day of a source, and which days it has.
use Rattle.std.proofs.Common.{◌≡◌, ℕ, true, false, List, [], ◌∷◌, sym, subst, inl, inr, ⊎_elim, arith}
use Rattle.std.specs.List.{AllByRecursion}
use Rattle.std.proofs.lemmas.Bool.{both_ways}
use Rattle.std.proofs.lemmas.Bool.Decides.{eqb_tells}
use Rattle.source.specs.Days.{among}
use Rattle.series.specs.Members.{Mem}

pub all_mem : {X : Type 0} (P : X → Type 0) (xs : List X) → AllByRecursion P xs → (x : X) → Mem x xs → P x
all_mem P [] a x m = absurd m
all_mem P (y ∷ ys) a x (inl e) = subst P (sym e) a.0
all_mem P (y ∷ ys) a x (inr m) = all_mem P ys a.1 x m

-- the test says which days are among them
pub among_mem : (d : ℕ) (xs : List ℕ) → among d xs ≡ true → Mem d xs
among_mem d [] h = let z : ◌≡◌ {A = ℕ} 0 1 = cc in omega arith
among_mem d (x ∷ xs) h = ⊎_elim (λ t. inl t.1) (λ f. inr (among_mem d xs (rw f.0 at h))) (eqb_tells d x)

pub among_not : (d : ℕ) (xs : List ℕ) → among d xs ≡ false → Mem d xs → ⊥
among_not d [] h m = m
among_not d (x ∷ xs) h m = ⊎_elim (λ t. both_ways (among d (x ∷ xs)) h (rw t.0)) (λ f. elim m [ inl e ↦ f.1 e | inr n ↦ among_not d xs (rw f.0 at h) n ]) (eqb_tells d x)
