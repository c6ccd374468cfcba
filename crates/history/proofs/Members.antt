-- Members of lists: of two joined, of a mapped and of a filtered one; an ordered list is known by its members.
use Rattle.std.proofs.Common.{◌≡◌, Bool, true, false, cond, ◌⊎◌, ◌↔◌, List, [], ◌∷◌, ◌++◌, map, filter, sym, refl, ap, ◌∙◌, subst, ap₂, inl, inr}
use Rattle.std.specs.List.{AllByRecursion}
use Rattle.series.specs.Members.{Mem, Ordered}

pub mem_append_left : {X : Type 0} (x : X) (xs ys : List X) → Mem x xs → Mem x (xs ++ ys)
mem_append_left x [] ys h = absurd h
mem_append_left x (y ∷ xs) ys (inl e) = inl e
mem_append_left x (y ∷ xs) ys (inr h) = inr (mem_append_left x xs ys h)

pub mem_append_right : {X : Type 0} (x : X) (xs ys : List X) → Mem x ys → Mem x (xs ++ ys)
mem_append_right x [] ys h = h
mem_append_right x (y ∷ xs) ys h = inr (mem_append_right x xs ys h)

pub mem_append : {X : Type 0} (x : X) (xs ys : List X) → Mem x (xs ++ ys) → Mem x xs ⊎ Mem x ys
mem_append x [] ys h = inr h
mem_append x (y ∷ xs) ys (inl e) = inl (inl e)
mem_append x (y ∷ xs) ys (inr h) = elim (mem_append x xs ys h) [ inl a ↦ inl (inr a) | inr b ↦ inr b ]

pub mem_map : {X Y : Type 0} (f : X → Y) {x : X} (y : Y) (xs : List X) → Mem x xs → y ≡ f x → Mem y (map f xs)
mem_map f y [] h e = absurd h
mem_map f y (z ∷ xs) (inl p) e = inl (e ∙ ap f p)
mem_map f y (z ∷ xs) (inr h) e = inr (mem_map f y xs h e)

pub map_mem : {X Y : Type 0} (f : X → Y) {y : Y} (xs : List X) → Mem y (map f xs) → (x : X) × Mem x xs × (y ≡ f x)
map_mem f [] h = absurd h
map_mem f (z ∷ xs) (inl e) = (z, inl refl, e)
map_mem f (z ∷ xs) (inr h) = let r = map_mem f xs h in (r.0, inr r.1, r.2)

pub mem_kept : {X : Type 0} (p : X → Bool) {x : X} (xs : List X) → Mem x xs → p x ≡ true → Mem x (filter p xs)
mem_kept p [] h e = absurd h
mem_kept p {x} (z ∷ xs) (inl q) e = rw (sym (ap p q) ∙ e) (inl q)
mem_kept p {x} (z ∷ xs) (inr h) e = go (p z) (mem_kept p xs h e)
  where
    go : (b : Bool) → Mem x (filter p xs) → Mem x (cond b (z ∷ filter p xs) (filter p xs))
    go true m = inr m
    go false m = m

pub kept_mem : {X : Type 0} (p : X → Bool) {x : X} (xs : List X) → Mem x (filter p xs) → Mem x xs × (p x ≡ true)
kept_mem p [] h = absurd h
kept_mem p {x} (z ∷ xs) h = go (p z) refl (kept_mem p xs) h
  where
    go : (b : Bool) → p z ≡ b → (Mem x (filter p xs) → Mem x xs × (p x ≡ true)) → Mem x (cond b (z ∷ filter p xs) (filter p xs)) → Mem x (z ∷ xs) × (p x ≡ true)
    go true e ih (inl q) = (inl q, ap p q ∙ e)
    go true e ih (inr m) = (inr (ih m).0, (ih m).1)
    go false e ih m = (inr (ih m).0, (ih m).1)

pub all_mem : {X : Type 0} (P : X → Type 0) (x : X) (xs : List X) → AllByRecursion P xs → Mem x xs → P x
all_mem P x [] a m = absurd m
all_mem P x (y ∷ ys) a (inl e) = subst P (sym e) a.0
all_mem P x (y ∷ ys) a (inr m) = all_mem P x ys a.1 m

-- two lists in a strict order with the same members are the same list
module _ {X : Type 0} (R : X → X → Type 0) (asym : (x y : X) → R x y → R y x → ⊥) where
  heads : (x y : X) (xs ys : List X) → AllByRecursion (R x) xs → AllByRecursion (R y) ys → Mem x (y ∷ ys) → Mem y (x ∷ xs) → x ≡ y
  heads x y xs ys a b (inl e) n = e
  heads x y xs ys a b (inr m) (inl e) = sym e
  heads x y xs ys a b (inr m) (inr n) = absurd (asym x y (all_mem (R x) y xs a n) (all_mem (R y) x ys b m))

  behind : (x y : X) (xs ys : List X) → x ≡ y → AllByRecursion (R x) xs → ((z : X) → Mem z (x ∷ xs) → Mem z (y ∷ ys)) → (z : X) → Mem z xs → Mem z ys
  behind x y xs ys e a h z m = elim (h z (inr m)) [
    | inl q ↦ (let r : R x z = all_mem (R x) z xs a m in let s : R x x = subst (R x) (q ∙ sym e) r in absurd (asym x x s s))
    | inr k ↦ k
  ]

  pub same_list : (xs ys : List X) → Ordered R xs → Ordered R ys → ((z : X) → Mem z xs ↔ Mem z ys) → xs ≡ ys
  same_list [] [] a b h = refl
  same_list [] (y ∷ ys) a b h = absurd ((h y).1 (inl refl))
  same_list (x ∷ xs) [] a b h = absurd ((h x).0 (inl refl))
  same_list (x ∷ xs) (y ∷ ys) a b h =
      let e : x ≡ y = heads x y xs ys a.0 b.0 ((h x).0 (inl refl)) ((h y).1 (inl refl)) in
      ap₂ ◌∷◌ e (same_list xs ys a.1 b.1 (λ z. (behind x y xs ys e a.0 (λ w. (h w).0) z, behind y x ys xs (sym e) b.0 (λ w. (h w).1) z)))
