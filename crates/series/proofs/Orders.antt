-- The order of UIDs is total, and `cmp` of octets answers by it.
use Rattle.std.proofs.Common.{◌≡◌, ℕ, ◌<◌, Bool, true, false, ◌&&◌, ◌||◌, eqb, ltb, ◌⊎◌, List, [], ◌∷◌, Ordering, Less, Equal, Greater, sym, refl, ap, ◌∙◌, subst, inl, inr, arith}
use Rattle.std.specs.Cmp.Lexicographic.{slice_cmp}
use Rattle.std.specs.Cmp.{ranks as firsts}
use Rattle.std.specs.Ordering.{MatchOrdering, nat_cmp, ordering_then}
use Rattle.std.proofs.lemmas.Bool.Decides.{nat_tests}
use Rattle.series.specs.Order.{Ahead, precedes}

pub chain : (xs ys zs : List ℕ) → Ahead xs ys → Ahead ys zs → Ahead xs zs
chain [] [] zs p q = absurd p
chain [] (y ∷ ys) [] p q = absurd q
chain [] (y ∷ ys) (z ∷ zs) p q = tt
chain (x ∷ xs) [] zs p q = absurd p
chain (x ∷ xs) (y ∷ ys) [] p q = absurd q
chain (x ∷ xs) (y ∷ ys) (z ∷ zs) (inl p) (inl q) = let h : x < z = omega arith in inl h
chain (x ∷ xs) (y ∷ ys) (z ∷ zs) (inl p) (inr q) = let e = q.0 in let h : x < z = omega arith in inl h
chain (x ∷ xs) (y ∷ ys) (z ∷ zs) (inr p) (inl q) = let e = p.0 in let h : x < z = omega arith in inl h
chain (x ∷ xs) (y ∷ ys) (z ∷ zs) (inr p) (inr q) = inr (p.0 ∙ q.0, chain xs ys zs p.1 q.1)

pub irreflexive : (xs : List ℕ) → Ahead xs xs → ⊥
irreflexive [] h = h
irreflexive (x ∷ xs) (inl l) = omega arith
irreflexive (x ∷ xs) (inr h) = irreflexive xs h.1

pub asymmetric : (xs ys : List ℕ) → Ahead xs ys → Ahead ys xs → ⊥
asymmetric xs ys p q = irreflexive xs (chain xs ys xs p q)

-- one comes first, or they are the same
pub trichotomy : (xs ys : List ℕ) → Ahead xs ys ⊎ ((xs ≡ ys) ⊎ Ahead ys xs)
trichotomy [] [] = inr (inl refl)
trichotomy [] (y ∷ ys) = inl tt
trichotomy (x ∷ xs) [] = inr (inr tt)
trichotomy (x ∷ xs) (y ∷ ys) = first (ltb x y) refl (trichotomy xs ys)
  where
    rest : x ≡ y → Ahead xs ys ⊎ ((xs ≡ ys) ⊎ Ahead ys xs) → Ahead (x ∷ xs) (y ∷ ys) ⊎ (((x ∷ xs) ≡ (y ∷ ys)) ⊎ Ahead (y ∷ ys) (x ∷ xs))
    rest e (inl h) = inl (inr (e, h))
    rest e (inr (inl h)) = inr (inl (λ j. e j ∷ h j))
    rest e (inr (inr h)) = inr (inr (inr (sym e, h)))

    second : (b : Bool) → ltb y x ≡ b → (x < y → ⊥) → Ahead xs ys ⊎ ((xs ≡ ys) ⊎ Ahead ys xs) → Ahead (x ∷ xs) (y ∷ ys) ⊎ (((x ∷ xs) ≡ (y ∷ ys)) ⊎ Ahead (y ∷ ys) (x ∷ xs))
    second true t n ih = let l : y < x = grind (arith, nat_tests) in inr (inr (inl l))
    second false t n ih = let e : x ≡ y = grind (arith, nat_tests) in rest e ih

    first : (b : Bool) → ltb x y ≡ b → Ahead xs ys ⊎ ((xs ≡ ys) ⊎ Ahead ys xs) → Ahead (x ∷ xs) (y ∷ ys) ⊎ (((x ∷ xs) ≡ (y ∷ ys)) ⊎ Ahead (y ∷ ys) (x ∷ xs))
    first true t ih = let l : x < y = grind (arith, nat_tests) in inl (inl l)
    first false t ih = let n : x < y → ⊥ = grind (arith, nat_tests) in second (ltb y x) refl n ih

-- what the first octets say, with what the rest says
again : (x y : ℕ) (xs ys : List ℕ) (r : Ordering) → x ≡ y → MatchOrdering r (Ahead xs ys) (xs ≡ ys) (Ahead ys xs) → MatchOrdering r (Ahead (x ∷ xs) (y ∷ ys)) ((x ∷ xs) ≡ (y ∷ ys)) (Ahead (y ∷ ys) (x ∷ xs))
again x y xs ys Less e h = inr (e, h)
again x y xs ys Equal e h = cc
again x y xs ys Greater e h = inr (sym e, h)

step : (x y : ℕ) (xs ys : List ℕ) (k r : Ordering) → MatchOrdering k (x < y) (x ≡ y) (y < x) → MatchOrdering r (Ahead xs ys) (xs ≡ ys) (Ahead ys xs) → MatchOrdering (ordering_then k r) (Ahead (x ∷ xs) (y ∷ ys)) ((x ∷ xs) ≡ (y ∷ ys)) (Ahead (y ∷ ys) (x ∷ xs))
step x y xs ys Less r p h = inl p
step x y xs ys Equal r p h = again x y xs ys r p h
step x y xs ys Greater r p h = inl p

ranks : (xs ys : List ℕ) → MatchOrdering (slice_cmp nat_cmp xs ys) (Ahead xs ys) (xs ≡ ys) (Ahead ys xs)
ranks [] [] = refl
ranks [] (y ∷ ys) = tt
ranks (x ∷ xs) [] = tt
ranks (x ∷ xs) (y ∷ ys) = step x y xs ys (nat_cmp x y) (slice_cmp nat_cmp xs ys) (firsts x y) (ranks xs ys)

-- what `cmp` of UIDs says
pub ranks_at : (xs ys : List ℕ) (r : Ordering) → r ≡ slice_cmp nat_cmp xs ys → MatchOrdering r (Ahead xs ys) (xs ≡ ys) (Ahead ys xs)
ranks_at xs ys r h = subst (λ (o : Ordering). MatchOrdering o (Ahead xs ys) (xs ≡ ys) (Ahead ys xs)) (sym h) (ranks xs ys)

-- the test is the relation
pub precedes_ahead : (xs ys : List ℕ) → precedes xs ys ≡ true → Ahead xs ys
unfolding precedes
precedes_ahead [] [] h = let z : ◌≡◌ {A = ℕ} 0 1 = cc in omega arith
precedes_ahead [] (y ∷ ys) h = tt
precedes_ahead (x ∷ xs) [] h = let z : ◌≡◌ {A = ℕ} 0 1 = cc in omega arith
precedes_ahead (x ∷ xs) (y ∷ ys) h = go (ltb x y) refl h (precedes_ahead xs ys)
  where
    same : (c : Bool) → eqb x y ≡ c → (c && precedes xs ys) ≡ true → (precedes xs ys ≡ true → Ahead xs ys) → Ahead (x ∷ xs) (y ∷ ys)
    same true e k ih = let q : x ≡ y = grind (arith, nat_tests) in inr (q, ih k)
    same false e k ih = let z : ◌≡◌ {A = ℕ} 0 1 = cc in let v : ⊥ = omega arith in absurd v

    go : (b : Bool) → ltb x y ≡ b → (b || (eqb x y && precedes xs ys)) ≡ true → (precedes xs ys ≡ true → Ahead xs ys) → Ahead (x ∷ xs) (y ∷ ys)
    go true t k ih = let l : x < y = grind (arith, nat_tests) in inl l
    go false t k ih = same (eqb x y) refl k ih

pub ahead_precedes : (xs ys : List ℕ) → Ahead xs ys → precedes xs ys ≡ true
unfolding precedes
ahead_precedes [] [] h = absurd h
ahead_precedes [] (y ∷ ys) h = refl
ahead_precedes (x ∷ xs) [] h = absurd h
ahead_precedes (x ∷ xs) (y ∷ ys) (inl l) = let t : ltb x y ≡ true = grind (arith, nat_tests) in ap (λ b. b || (eqb x y && precedes xs ys)) t
ahead_precedes (x ∷ xs) (y ∷ ys) (inr h) =
    let e = h.0 in
    let f : ltb x y ≡ false = grind (arith, nat_tests) in
    let t : eqb x y ≡ true = grind (arith, nat_tests) in
    let k : precedes xs ys ≡ true = ahead_precedes xs ys h.1 in
    λ j. f j || (t j && k j)

-- and where it fails, the other comes first or they are the same
pub precedes_false : (xs ys : List ℕ) → (Ahead xs ys → ⊥) → precedes xs ys ≡ false
precedes_false xs ys n = go (precedes xs ys) refl
  where
    go : (b : Bool) → precedes xs ys ≡ b → precedes xs ys ≡ false
    go true t = absurd (n (precedes_ahead xs ys t))
    go false t = t
