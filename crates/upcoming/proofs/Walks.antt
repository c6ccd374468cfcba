-- The first plain day, while the days of a source are walked over.
use Rattle.std.proofs.Common.{◌≡◌, ℕ, zero, suc, ◌<◌, ◌≤◌, length, Some, None, Option, MatchOption, subst, List, [], ◌∷◌, sym, refl, ap, ◌∙◌, inl, inr, ⊎_elim, arith}
use Rattle.std.proofs.lemmas.Bool.Decides.{leb_tells}
use Rattle.std.specs.List.{AllWithin, HoldsAt}
use Rattle.source.specs.Days.{Ascending, since}
use Rattle.source.specs.Ascents.{kept_ascends}
use Rattle.series.specs.Marks.{plain}
use Rattle.series.specs.Members.{Mem}
use Rattle.series.specs.Plans.{Plan}
use Rattle.upcoming.specs.Kinds.{FirstPlain, PlainFrom}
use Rattle.upcoming.proofs.Finds.{all_mem}

-- the days that are left are the plan's from d on, less some that are not plain
pub record Left (p : Plan) (d : ℕ) (xs : List ℕ) : Type 0 where
  pub ascends : Ascending xs
  pub theirs : (x : ℕ) → Mem x xs → Mem x p.days × (d ≤ x)
  pub plains : (x : ℕ) → Mem x p.days → p.marks x ≡ plain → d ≤ x → Mem x xs

mem_since : (d : ℕ) (xs : List ℕ) (x : ℕ) → Mem x (since d xs) → Mem x xs × (d ≤ x)
mem_since d [] x m = absurd m
mem_since d (y ∷ ys) x m =
    ⊎_elim
    (λ t.
    let n : Mem x (y ∷ since d ys) = rw t.0 at m in
    elim n [ inl e ↦ (let e' : x ≡ y = e in (inl e, omega (arith, t.1))) | inr k ↦ (let r = mem_since d ys x k in (inr r.0, r.1)) ])
    (λ f. let r = mem_since d ys x (rw f.0 at m) in (inr r.0, r.1))
    (leb_tells d y)

since_mem : (d : ℕ) (xs : List ℕ) (x : ℕ) → Mem x xs → d ≤ x → Mem x (since d xs)
since_mem d [] x m h = absurd m
since_mem d (y ∷ ys) x m h =
    ⊎_elim
    (λ t.
    let n : Mem x (y ∷ since d ys) = elim m [ inl e ↦ inl e | inr k ↦ inr (since_mem d ys x k h) ] in
    rw t.0 n)
    (λ f. rw f.0 (elim m [ inl e ↦ (let e' : x ≡ y = e in absurd (omega (arith, f.1))) | inr k ↦ since_mem d ys x k h ]))
    (leb_tells d y)

pub left_all : (p : Plan) (d : ℕ) → Ascending p.days → Left p d (since d p.days)
left_all p d a = record {
  ascends = kept_ascends _ p.days a;
  theirs = mem_since d p.days;
  plains = λ x m _ h. since_mem d p.days x m h;
}

-- the first that is left, and not plain
pub left_less : (p : Plan) (d e : ℕ) (xs : List ℕ) → (p.marks e ≡ plain → ⊥) → Left p d (e ∷ xs) → Left p d xs
left_less p d e xs n l = record {
  ascends = l.ascends.1;
  theirs = λ x m. l.theirs x (inr m);
  plains = λ x m q h. elim (l.plains x m q h) [ inl i ↦ absurd (n (ap p.marks (sym i) ∙ q)) | inr m ↦ m ];
}

-- and plain
pub left_first : (p : Plan) (d e : ℕ) (xs : List ℕ) → p.marks e ≡ plain → Left p d (e ∷ xs) → FirstPlain p d e
left_first p d e xs q l =
    let t = l.theirs e (inl refl) in
    record {
      among = t.0;
      unmarked = q;
      from = t.1;
      first = λ x m s h. elim (l.plains x m s h) [ inl i ↦ (let i' : x ≡ e = i in omega arith) | inr m ↦ (let z : e < x = all_mem (λ y. e < y) xs l.ascends.0 x m in omega arith) ];
    }

-- the first that is plain, by its place
pub left_found : (p : Plan) (d e i : ℕ) (xs : List ℕ) → Left p d xs → p.marks e ≡ plain → i < length xs → HoldsAt (λ y. y ≡ e) xs i
    → AllWithin (λ y. p.marks y ≡ plain → ⊥) xs 0 i → FirstPlain p d e
left_found p d e i [] l q h a n = absurd (omega arith)
left_found p d e zero (x ∷ xs) l q h a n = let s : x ≡ e = a x in left_first p d e xs q (subst (λ (y : ℕ). Left p d (y ∷ xs)) s l)
left_found p d e (suc i) (x ∷ xs) l q h a n =
    left_found p d e i xs (left_less p d x xs (n 0 x (omega arith) (omega arith)) l) q (omega arith) a (λ k y u v. n (suc k) y (omega arith) (omega arith))

pub left_none : (p : Plan) (d : ℕ) (xs : List ℕ) → Left p d xs → AllWithin (λ y. p.marks y ≡ plain → ⊥) xs 0 (length xs) → PlainFrom p d None
left_none p d [] l n = λ x m q h. l.plains x m q h
left_none p d (y ∷ ys) l n = left_none p d ys (left_less p d y ys (n 0 y (omega arith) (omega arith)) l) (λ k x u v. n (suc k) x (omega arith) (omega arith))

pub left_case : (p : Plan) (d : ℕ) (xs : List ℕ) (r : Option ℕ) → Left p d xs
    → MatchOption r (AllWithin (λ y. p.marks y ≡ plain → ⊥) xs 0 (length xs)) (λ x. (p.marks x ≡ plain) × (i : ℕ) × (i < length xs) × HoldsAt (λ y. y ≡ x) xs i × AllWithin (λ y. p.marks y ≡ plain → ⊥) xs 0 i)
    → PlainFrom p d r
left_case p d xs None l m = left_none p d xs l m
left_case p d xs (Some e) l m = left_found p d e m.1 xs l m.0 m.2 m.3 m.4
