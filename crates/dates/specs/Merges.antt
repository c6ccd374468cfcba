-- Two lists joined: they ascend, and a filter of the whole is one of both sides.
use Rattle.std.specs.Prelude.{◌≡◌, ℕ, ◌<◌, min, Bool, true, false, List, [], ◌∷◌, Some, None, filter, Option, nat_le, nat_lt, refl}
use Rattle.std.proofs.Common.{sym, ap, subst, ◌∙◌, ⊎_elim, arith}
use Rattle.std.specs.List.{AllByRecursion}
use Rattle.std.proofs.ByRecursion.{All-weaker, all_kept_by}
use Rattle.std.proofs.lemmas.Bool.{cases_Bool, cases_order, lt-ltb, le-ltb, eq-eqb, ne_eqb}
use Rattle.source.specs.Days.{Ascending, since, head_of}
use Rattle.dates.specs.Unions.{slot, merged, sooner, BothSides}
use Rattle.source.specs.Ascents.{kept_ascends}

pub slot_after : (y x : ℕ) (xs : List ℕ) → x < y → slot y (x ∷ xs) ≡ x ∷ slot y xs
slot_after y x xs h = rw (lt-ltb x y h)

pub slot_at : (y x : ℕ) (xs : List ℕ) → x ≡ y → slot y (x ∷ xs) ≡ x ∷ xs
slot_at y x xs h = rw (le-ltb x y (omega arith), eq-eqb x y h)

pub slot_first : (y x : ℕ) (xs : List ℕ) → y < x → slot y (x ∷ xs) ≡ y ∷ x ∷ xs
slot_first y x xs h = rw (le-ltb x y (omega arith), ne_eqb x y (omega arith))

slot_under : (y : ℕ) (xs : List ℕ) → AllByRecursion (λ x. y < x) xs → slot y xs ≡ y ∷ xs
slot_under y [] a = refl
slot_under y (x ∷ xs) a = slot_first y x xs a.0

all_slot : (P : ℕ → Type 0) (y : ℕ) (xs : List ℕ) → P y → AllByRecursion P xs → AllByRecursion P (slot y xs)
all_slot P y [] h a = (h, tt)
all_slot P y (x ∷ xs) h a =
    ⊎_elim (λ e. subst (AllByRecursion P) (sym (slot_at y x xs e)) a)
    (⊎_elim
    (λ l. subst (AllByRecursion P) (sym (slot_after y x xs l)) (a.0, all_slot P y xs h a.1))
    (λ g. subst (AllByRecursion P) (sym (slot_first y x xs g)) (h, a)))
    (cases_order x y)

slot_ascends : (y : ℕ) (xs : List ℕ) → Ascending xs → Ascending (slot y xs)
slot_ascends y [] a = (tt, tt)
slot_ascends y (x ∷ xs) a =
    ⊎_elim (λ e. subst Ascending (sym (slot_at y x xs e)) a)
    (⊎_elim
    (λ l. subst Ascending (sym (slot_after y x xs l)) (all_slot (λ z. x < z) y xs l a.0, slot_ascends y xs a.1))
    (λ (g : y < x). subst Ascending (sym (slot_first y x xs g)) ((g, All-weaker (λ z. x < z) (λ z. y < z) (λ z h. omega arith) xs a.0), a)))
    (cases_order x y)

pub merged_ascends : (xs ys : List ℕ) → Ascending xs → Ascending (merged xs ys)
merged_ascends xs [] a = a
merged_ascends xs (y ∷ ys) a = slot_ascends y (merged xs ys) (merged_ascends xs ys a)

pub all_merged : (P : ℕ → Type 0) (xs ys : List ℕ) → AllByRecursion P xs → AllByRecursion P ys → AllByRecursion P (merged xs ys)
all_merged P xs [] a b = a
all_merged P xs (y ∷ ys) a b = all_slot P y (merged xs ys) b.0 (all_merged P xs ys a b.1)

-- a day that passes is kept in its place
slot_kept : (p : ℕ → Bool) (y : ℕ) (xs : List ℕ) → p y ≡ true → Ascending xs → filter p (slot y xs) ≡ slot y (filter p xs)
slot_kept p y [] h a = rw h
slot_kept p y (x ∷ xs) h a =
    ⊎_elim
    (λ (e : x ≡ y).
    let t : p x ≡ true = ap p e ∙ h in
    ap (filter p) (slot_at y x xs e) ∙ sym (ap (slot y) (kept_in t) ∙ slot_at y x (filter p xs) e ∙ sym (kept_in t)))
    (⊎_elim
    (λ (l : x < y).
    ap (filter p) (slot_after y x xs l)
    ∙ ⊎_elim
    (λ (t : p x ≡ true). rw t (ap (λ zs. x ∷ zs) (slot_kept p y xs h a.1) ∙ sym (slot_after y x (filter p xs) l)))
    (λ (f : p x ≡ false). rw f (slot_kept p y xs h a.1))
    (cases_Bool (p x)))
    (λ (g : y < x).
    let under : AllByRecursion (λ z. y < z) (x ∷ xs) = (g, All-weaker (λ z. x < z) (λ z. y < z) (λ z l. omega arith) xs a.0) in
    ap (filter p) (slot_first y x xs g) ∙ keeps ∙ sym (slot_under y (filter p (x ∷ xs)) (all_kept_by p (λ z. y < z) (x ∷ xs) under))))
    (cases_order x y)
  where
    kept_in : p x ≡ true → filter p (x ∷ xs) ≡ x ∷ filter p xs
    kept_in t = rw t

    keeps : filter p (y ∷ x ∷ xs) ≡ y ∷ filter p (x ∷ xs)
    keeps = rw h

-- a day that does not pass leaves no trace
slot_lost : (p : ℕ → Bool) (y : ℕ) (xs : List ℕ) → p y ≡ false → filter p (slot y xs) ≡ filter p xs
slot_lost p y [] h = rw h
slot_lost p y (x ∷ xs) h =
    ⊎_elim (λ (e : x ≡ y). ap (filter p) (slot_at y x xs e))
    (⊎_elim
    (λ (l : x < y).
    ap (filter p) (slot_after y x xs l)
    ∙ ⊎_elim
    (λ (t : p x ≡ true). rw t (ap (λ zs. x ∷ zs) (slot_lost p y xs h)))
    (λ (f : p x ≡ false). rw f (slot_lost p y xs h))
    (cases_Bool (p x)))
    (λ (g : y < x). ap (filter p) (slot_first y x xs g) ∙ loses))
    (cases_order x y)
  where
    loses : filter p (y ∷ x ∷ xs) ≡ filter p (x ∷ xs)
    loses = rw h

kept_merged : (p : ℕ → Bool) (xs ys : List ℕ) → Ascending xs → filter p (merged xs ys) ≡ merged (filter p xs) (filter p ys)
kept_merged p xs [] a = refl
kept_merged p xs (y ∷ ys) a =
    ⊎_elim
    (λ (t : p y ≡ true). rw t (slot_kept p y (merged xs ys) t (merged_ascends xs ys a) ∙ ap (slot y) (kept_merged p xs ys a)))
    (λ (f : p y ≡ false). rw f (slot_lost p y (merged xs ys) f ∙ kept_merged p xs ys a))
    (cases_Bool (p y))

head_slot : (y : ℕ) (xs : List ℕ) → head_of (slot y xs) ≡ sooner (head_of xs) (Some y)
head_slot y [] = refl
head_slot y (x ∷ xs) =
    ⊎_elim (λ (e : x ≡ y). ap head_of (slot_at y x xs e) ∙ ap (λ k. Some k) (let m : x ≡ min x y = omega arith in m))
    (⊎_elim
    (λ (l : x < y). ap head_of (slot_after y x xs l) ∙ ap (λ k. Some k) (let m : x ≡ min x y = omega arith in m))
    (λ (g : y < x). ap head_of (slot_first y x xs g) ∙ ap (λ k. Some k) (let m : y ≡ min x y = omega arith in m)))
    (cases_order x y)

-- y lies before all that follows it
pinched : (o : Option ℕ) (y : ℕ) (ys : List ℕ) → AllByRecursion (λ z. y < z) ys → sooner (sooner o (head_of ys)) (Some y) ≡ sooner o (Some y)
pinched None y [] a = refl
pinched None y (z ∷ zs) a = ap (λ k. Some k) (let e : min z y ≡ y = omega (arith, a.0) in e)
pinched (Some x) y [] a = refl
pinched (Some x) y (z ∷ zs) a = ap (λ k. Some k) (let e : min (min x z) y ≡ min x y = omega (arith, a.0) in e)

sooner_none : (o : Option ℕ) → o ≡ sooner o None
sooner_none None = refl
sooner_none (Some x) = refl

head_merged : (xs ys : List ℕ) → Ascending ys → head_of (merged xs ys) ≡ sooner (head_of xs) (head_of ys)
head_merged xs [] a = sooner_none (head_of xs)
head_merged xs (y ∷ ys) a =
    head_slot y (merged xs ys) ∙ ap (λ o. sooner o (Some y)) (head_merged xs ys a.1) ∙ pinched (head_of xs) y ys a.0

pub both_sides : (xs ys : List ℕ) → Ascending xs → Ascending ys → BothSides xs ys
both_sides xs ys a b =
    let tail : (d : ℕ) → since d (merged xs ys) ≡ merged (since d xs) (since d ys) = λ d. kept_merged (λ x. nat_le d x) xs ys a in
    record {
      first = λ d. ap head_of (tail d) ∙ head_merged (since d xs) (since d ys) (kept_ascends (λ x. nat_le d x) ys b);
      head = λ d. kept_merged (λ x. nat_lt x d) xs ys a;
      tail = tail;
    }
