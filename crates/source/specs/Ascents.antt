-- Ascending lists: what follows the first day from a number on.
use Rattle.std.specs.Prelude.{◌≡◌, ℕ, ◌+◌, ◌<◌, ◌≤◌, min, Bool, true, false, ltb, leb, List, [], ◌∷◌, ◌++◌, Some, None, filter, nat_le, nat_lt, refl}
use Rattle.std.proofs.Common.{sym, ap, subst, ◌∙◌, ⊎_elim, arith}
use Rattle.std.specs.List.{AllByRecursion}
use Rattle.std.proofs.ByRecursion.{All-weaker, all_kept_by, kept_by_passes}
use Rattle.std.proofs.lemmas.Bool.{cases_Bool, cases_lt, le-leb, lt-leb, lt-ltb, le-ltb, leb-true}
use Rattle.std.proofs.lemmas.Bool.Decides.{leb_tells}
use Rattle.source.specs.Days.{Ascending, before, since, head_of, first_from}
use Rattle.source.specs.Kept.{kept_all, kept_none}

pub kept_ascends : (p : ℕ → Bool) (xs : List ℕ) → Ascending xs → Ascending (filter p xs)
kept_ascends p [] a = tt
kept_ascends p (x ∷ xs) a =
    ⊎_elim (λ t. rw t (all_kept_by p (λ y. x < y) xs a.0, kept_ascends p xs a.1)) (λ f. rw f (kept_ascends p xs a.1)) (cases_Bool (p x))

-- a list that begins at or after d is all from d on
pub since_whole : (d : ℕ) (xs : List ℕ) → AllByRecursion (λ x. d ≤ x) xs → since d xs ≡ xs
since_whole d xs a = kept_all (λ x. leb d x) xs (All-weaker (λ x. d ≤ x) (λ x. nat_le d x ≡ true) (λ x h. le-leb d x h) xs a)

-- and has none before d
pub before_none : (d : ℕ) (xs : List ℕ) → AllByRecursion (λ x. d ≤ x) xs → before d xs ≡ []
before_none d xs a = kept_none (λ x. ltb x d) xs (All-weaker (λ x. d ≤ x) (λ x. nat_lt x d ≡ false) (λ x h. le-ltb x d h) xs a)

-- an ascending list begins with its first day
pub from_first : (d x : ℕ) (xs : List ℕ) → Ascending (x ∷ xs) → d ≤ x → AllByRecursion (λ y. d ≤ y) (x ∷ xs)
from_first d x xs a l = (l, All-weaker (λ y. x < y) (λ y. d ≤ y) (λ y h. omega arith) xs a.0)

-- the days before d and those from d on are all days
pub before_since : (d : ℕ) (xs : List ℕ) → Ascending xs → before d xs ++ since d xs ≡ xs
before_since d [] a = refl
before_since d (x ∷ xs) a =
    ⊎_elim
    (λ (l : x < d). rw (lt-ltb x d l, lt-leb d x l) (ap (λ ys. x ∷ ys) (before_since d xs a.1)))
    (λ (l : d ≤ x).
    let from = from_first d x xs a l in
    ap (λ ys. ys ++ since d (x ∷ xs)) (before_none d (x ∷ xs) from) ∙ since_whole d (x ∷ xs) from)
    (cases_lt x d)

-- the days before d of those before e are the days before both
pub before_both : (d e : ℕ) (xs : List ℕ) → before d (before e xs) ≡ before (min d e) xs
before_both d e [] = refl
before_both d e (x ∷ xs) =
    ⊎_elim
    (λ (l : x < e).
    ⊎_elim
    (λ (k : x < d). rw (lt-ltb x e l, lt-ltb x d k, lt-ltb x (min d e) (omega arith)) (ap (λ ys. x ∷ ys) (before_both d e xs)))
    (λ (k : d ≤ x). rw (lt-ltb x e l, le-ltb x d k, le-ltb x (min d e) (omega arith)) (before_both d e xs))
    (cases_lt x d))
    (λ (l : e ≤ x). rw (le-ltb x e l, le-ltb x (min d e) (omega arith)) (before_both d e xs))
    (cases_lt x e)

-- the first day from d on lies at or after d
pub first_is_from : (d x : ℕ) (xs : List ℕ) → first_from d xs ≡ Some x → d ≤ x
first_is_from d x [] e = let z : ◌≡◌ {A = ℕ} 0 1 = cc in absurd (omega arith)
first_is_from d x (y ∷ ys) e =
    ⊎_elim
    (λ t. let f : head_of (y ∷ since d ys) ≡ Some x = rw t.0 at e in let g : y ≡ x = cc in omega (arith, t.1))
    (λ f. first_is_from d x ys (rw f.0 at e))
    (leb_tells d y)

-- the days from d on are the first of them and the days past it
pub since_first : (d x : ℕ) (xs : List ℕ) → Ascending xs → first_from d xs ≡ Some x → since d xs ≡ x ∷ since (x + 1) xs
since_first d x [] a e = let z : ◌≡◌ {A = ℕ} 0 1 = cc in absurd (omega arith)
since_first d x (y ∷ ys) a e =
    ⊎_elim
    (λ t.
    let f : head_of (y ∷ since d ys) ≡ Some x = rw t.0 at e in
    let g : y ≡ x = cc in
    let l : leb (x + 1) y ≡ false = lt-leb (x + 1) y (omega arith) in
    let w : since d ys ≡ ys = since_whole d ys (All-weaker (λ z. y < z) (λ z. d ≤ z) (λ z h. omega (arith, t.1)) ys a.0) in
    let v : since (x + 1) ys ≡ ys = since_whole (x + 1) ys (All-weaker (λ z. y < z) (λ z. x + 1 ≤ z) (λ z h. omega (arith, g)) ys a.0) in
    rw (t.0, l) (ap (λ z. z ∷ since d ys) g ∙ ap (λ zs. x ∷ zs) (w ∙ sym v)))
    (λ f.
    let e' : first_from d ys ≡ Some x = rw f.0 at e in
    let h = since_first d x ys a.1 e' in
    let b : d ≤ x = first_is_from d x ys e' in
    let l : leb (x + 1) y ≡ false = lt-leb (x + 1) y (omega (arith, f.1)) in
    rw (f.0, l) h)
    (leb_tells d y)

-- what holds of every day holds of the first from d on
pub first_has : (P : ℕ → Type 0) (d x : ℕ) (xs : List ℕ) → AllByRecursion P xs → first_from d xs ≡ Some x → P x
first_has P d x [] a e = let z : ◌≡◌ {A = ℕ} 0 1 = cc in absurd (omega arith)
first_has P d x (y ∷ ys) a e =
    ⊎_elim
    (λ t. let f : head_of (y ∷ since d ys) ≡ Some x = rw t.0 at e in let g : y ≡ x = cc in subst P g a.0)
    (λ f. first_has P d x ys a.1 (rw f.0 at e))
    (leb_tells d y)

-- with no first day from d on there is none
pub since_none : (d : ℕ) (xs : List ℕ) → first_from d xs ≡ None → since d xs ≡ []
since_none d xs e = empty (since d xs) e
  where
    empty : (ys : List ℕ) → head_of ys ≡ None → ys ≡ []
    empty [] e = refl
    empty (y ∷ ys) e = let z : ◌≡◌ {A = ℕ} 0 1 = cc in absurd (omega arith)

-- no day from d on lies before the first of them
pub since_later : (d x : ℕ) (xs : List ℕ) → Ascending xs → first_from d xs ≡ Some x → AllByRecursion (λ y. x ≤ y) (since d xs)
since_later d x xs a e =
    let more : AllByRecursion (λ y. x ≤ y) (since (x + 1) xs) =
    All-weaker (λ y. nat_le (x + 1) y ≡ true) (λ y. x ≤ y) (λ y h. omega (arith, leb-true (x + 1) y h)) (since (x + 1) xs) (kept_by_passes (λ y. leb (x + 1) y) xs) in
    let both : AllByRecursion (λ y. x ≤ y) (x ∷ since (x + 1) xs) = (omega arith, more) in
    rw (since_first d x xs a e) both
