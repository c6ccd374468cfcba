-- Lists in order: one more at the end, each mapped, and what a list writes that has every member of another.
use Rattle.std.proofs.Common.{◌≡◌, ◌+◌, ◌≤◌, ◌⊎◌, List, [], ◌∷◌, ◌++◌, map, length, sym, refl, ap, ◌∙◌, subst, inl, inr, arith}
use Rattle.std.specs.List.{flat_map, AllByRecursion}
use Rattle.std.proofs.ByRecursion.{All-push}
use Rattle.std.proofs.lemmas.List.{length-append}
use Rattle.series.specs.Members.{Mem, Ordered}
use Rattle.history.proofs.Members.{mem_append, all_mem}

pub mem_push : {X : Type 0} (x y : X) (xs : List X) → Mem x (xs ++ y ∷ []) → Mem x xs ⊎ (x ≡ y)
mem_push x y xs m = elim (mem_append x xs (y ∷ []) m) [ inl h ↦ inl h | inr (inl e) ↦ inr e | inr (inr z) ↦ absurd z ]

pub ordered_push : {X : Type 0} (R : X → X → Type 0) (x : X) (xs : List X) → Ordered R xs → ((y : X) → Mem y xs → R y x) → Ordered R (xs ++ x ∷ [])
ordered_push R x [] o h = (tt, tt)
ordered_push R x (y ∷ ys) o h = (All-push (R y) ys x o.0 (h y (inl refl)), ordered_push R x ys o.1 (λ z m. h z (inr m)))

module _ {X Y : Type 0} (f : X → Y) where
  all_to : (P : X → Type 0) (Q : Y → Type 0) (xs : List X) → ((x : X) → Mem x xs → P x → Q (f x)) → AllByRecursion P xs → AllByRecursion Q (map f xs)
  all_to P Q [] h a = tt
  all_to P Q (x ∷ xs) h a = (h x (inl refl) a.0, all_to P Q xs (λ y m. h y (inr m)) a.1)

  pub ordered_map : (R : X → X → Type 0) (Q : Y → Y → Type 0) (xs : List X) → ((x y : X) → Mem x xs → Mem y xs → R x y → Q (f x) (f y)) → Ordered R xs → Ordered Q (map f xs)
  ordered_map R Q [] h o = tt
  ordered_map R Q (x ∷ xs) h o = (all_to (R x) (Q (f x)) xs (λ y m r. h x y (inl refl) (inr m) r) o.0, ordered_map R Q xs (λ y z m n r. h y z (inr m) (inr n) r) o.1)

module _ {X : Type 0} (R : X → X → Type 0) (asym : (x y : X) → R x y → R y x → ⊥) where
  apart : (x : X) → R x x → ⊥
  apart x r = asym x x r r

  -- an ordered list writes no more than one that has all its members
  pub heavier : {A : Type 0} (f : X → List A) (ys xs : List X) → Ordered R xs → Ordered R ys → ((x : X) → Mem x xs → Mem x ys) → length (flat_map f xs) ≤ length (flat_map f ys)
  heavier f ys [] a b h = omega arith
  heavier f [] (x ∷ xs) a b h = absurd (h x (inl refl))
  heavier f (y ∷ ys) (x ∷ xs) a b h = elim (h x (inl refl)) [
    | inl e ↦ (let r : length (flat_map f xs) ≤ length (flat_map f ys) = heavier f ys xs a.1 b.1 (λ z m. elim (h z (inr m)) [
      | inl q ↦ absurd (apart x (subst (R x) (q ∙ sym e) (all_mem (R x) z xs a.0 m)))
      | inr k ↦ k
    ]) in
        let c : length (f x) ≡ length (f y) = ap (λ v. length (f v)) e in
        let u : length (f x ++ flat_map f xs) ≡ length (f x) + length (flat_map f xs) = length-append (f x) (flat_map f xs) in
        let v : length (f y ++ flat_map f ys) ≡ length (f y) + length (flat_map f ys) = length-append (f y) (flat_map f ys) in omega arith)
    | inr n ↦ (let r : length (flat_map f (x ∷ xs)) ≤ length (flat_map f ys) = heavier f ys (x ∷ xs) a b.1 (λ z m. elim (h z m) [
      | inl q ↦ (let s : R y x = all_mem (R y) x ys b.0 n in elim m [
        | inl w ↦ absurd (apart y (subst (R y) (sym w ∙ q) s))
        | inr w ↦ absurd (asym x y (subst (R x) q (all_mem (R x) z xs a.0 w)) s)
      ])
      | inr k ↦ k
    ]) in
        let v : length (f y ++ flat_map f ys) ≡ length (f y) + length (flat_map f ys) = length-append (f y) (flat_map f ys) in omega arith)
  ]
