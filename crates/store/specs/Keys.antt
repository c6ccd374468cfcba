-- Keys in order: what the tests say of them, and where one stands or would stand among them.
use Rattle.std.specs.Prelude.{◌≡◌, ℕ, zero, suc, ◌<◌, ◌≤◌, true, false, ◌⊎◌, List, [], ◌∷◌, map, length, Ok, Err, Result, MatchResult, ◌≢◌, slice_index_or}
use Rattle.std.proofs.Common.{sym, subst, ap, inl, inr, ⊎_elim, arith}
use Rattle.std.specs.List.{AllByRecursion}
use Rattle.std.specs.Str.{bytes_eq}
use Rattle.std.proofs.lemmas.Slice.Eq.{bytes_eq-Decides}
use Rattle.std.proofs.lemmas.Bool.{cases_Bool, both_ways}
use Rattle.lookup.specs.Places.{Rising, Present, Absent}
use Rattle.series.specs.Members.{Ordered}
use Rattle.series.specs.Order.{Ahead, precedes}
use Rattle.store.specs.Seats.{Seat, Gap}
use Rattle.series.proofs.Orders.{irreflexive, asymmetric, trichotomy, ahead_precedes, precedes_false}

pub ahead_apart : (a b : List ℕ) → Ahead a b → a ≢ b
ahead_apart a b h e = irreflexive b (subst (λ (x : List ℕ). Ahead x b) e h)

pub behind_apart : (a b : List ℕ) → Ahead b a → a ≢ b
behind_apart a b h e = ahead_apart b a h (sym e)

-- the test for the same key, both ways
pub same_is : (a b : List ℕ) → a ≡ b → bytes_eq a b ≡ true
same_is a b e = (bytes_eq-Decides a b).1 e

pub same_not : (a b : List ℕ) → (a ≢ b) → bytes_eq a b ≡ false
same_not a b n = ⊎_elim (λ (t : bytes_eq a b ≡ true). absurd (n ((bytes_eq-Decides a b).0 t))) (λ (f : bytes_eq a b ≡ false). f) (cases_Bool (bytes_eq a b))

pub same_tells : (a b : List ℕ) → ((bytes_eq a b ≡ true) × (a ≡ b)) ⊎ ((bytes_eq a b ≡ false) × (a ≢ b))
same_tells a b =
    ⊎_elim
    (λ (t : bytes_eq a b ≡ true). inl (t, (bytes_eq-Decides a b).0 t))
    (λ (f : bytes_eq a b ≡ false). inr (f, λ e. both_ways (bytes_eq a b) f (same_is a b e)))
    (cases_Bool (bytes_eq a b))

-- how a key stands to another, with what the tests say then
pub record Before (a b : List ℕ) : Type 0 where
  pub ahead : Ahead a b
  pub test : precedes a b ≡ true
  pub other : bytes_eq b a ≡ false

pub record Same (a b : List ℕ) : Type 0 where
  pub same : b ≡ a
  pub test : precedes a b ≡ false
  pub equal : bytes_eq b a ≡ true

pub record After (a b : List ℕ) : Type 0 where
  pub ahead : Ahead b a
  pub test : precedes a b ≡ false
  pub other : bytes_eq b a ≡ false

pub before_is : (a b : List ℕ) → Ahead a b → Before a b
before_is a b h = record { ahead = h; test = ahead_precedes a b h; other = same_not b a (behind_apart b a h) }

pub same_at : (a b : List ℕ) → b ≡ a → Same a b
same_at a b e = record { same = e; test = precedes_false a b (λ h. behind_apart b a h e); equal = same_is b a e }

pub after_is : (a b : List ℕ) → Ahead b a → After a b
after_is a b h = record { ahead = h; test = precedes_false a b (λ k. asymmetric a b k h); other = same_not b a (ahead_apart b a h) }

pub ways : (a b : List ℕ) → Before a b ⊎ (Same a b ⊎ After a b)
ways a b =
    ⊎_elim (λ (h : Ahead a b). inl (before_is a b h))
    (λ (r : (a ≡ b) ⊎ Ahead b a). ⊎_elim (λ (e : a ≡ b). inr (inl (same_at a b (sym e)))) (λ (h : Ahead b a). inr (inr (after_is a b h))) r)
    (trichotomy a b)

module _ {R : Type 0} (key : R → List ℕ) where
  pub ordered_keys : (xs : List R) → Ordered (λ a b. Ahead (key a) (key b)) xs → Ordered Ahead (map key xs)
  ordered_keys [] h = tt
  ordered_keys (x ∷ xs) h = (all_keys xs h.0, ordered_keys xs h.1)
    where
      all_keys : (ys : List R) → AllByRecursion (λ b. Ahead (key x) (key b)) ys → AllByRecursion (Ahead (key x)) (map key ys)
      all_keys [] a = tt
      all_keys (y ∷ ys) a = (a.0, all_keys ys a.1)

  pub keys_ordered : (xs : List R) → Ordered Ahead (map key xs) → Ordered (λ a b. Ahead (key a) (key b)) xs
  keys_ordered [] h = tt
  keys_ordered (x ∷ xs) h = (keys_all xs h.0, keys_ordered xs h.1)
    where
      keys_all : (ys : List R) → AllByRecursion (Ahead (key x)) (map key ys) → AllByRecursion (λ b. Ahead (key x) (key b)) ys
      keys_all [] a = tt
      keys_all (y ∷ ys) a = (a.0, keys_all ys a.1)

  all_at : (u : List ℕ) (xs : List R) (j : ℕ) (d : R) → j < length xs → AllByRecursion (Ahead u) (map key xs) → Ahead u (key (slice_index_or xs j d))
  all_at u [] j d l a = absurd (omega arith)
  all_at u (x ∷ xs) zero d l a = a.0
  all_at u (x ∷ xs) (suc j) d l a = all_at u xs j d (omega arith) a.1

  all_of : (u : List ℕ) (xs : List R) → ((j : ℕ) (d : R) → j < length xs → Ahead u (key (slice_index_or xs j d))) → AllByRecursion (Ahead u) (map key xs)
  all_of u [] h = tt
  all_of u (x ∷ xs) h = (h 0 x (omega arith), all_of u xs (λ j d l. h (suc j) d (omega arith)))

  -- ascending keys rise as the search wants it, and back
  pub rising : (xs : List R) → Ordered Ahead (map key xs) → Rising (λ a b. Ahead (key a) (key b)) xs
  rising [] h i j d l k = absurd (omega arith)
  rising (x ∷ xs) h i zero d l k = absurd (omega arith)
  rising (x ∷ xs) h zero (suc j) d l k = all_at (key x) xs j d (omega arith) h.0
  rising (x ∷ xs) h (suc i) (suc j) d l k = rising xs h.1 i j d (omega arith) (omega arith)

  pub risen : (xs : List R) → Rising (λ a b. Ahead (key a) (key b)) xs → Ordered Ahead (map key xs)
  risen [] h = tt
  risen (x ∷ xs) h = (all_of (key x) xs (λ j d l. h 0 (suc j) d (omega arith) (omega arith)), risen xs (λ i j d l k. h (suc i) (suc j) d (omega arith) (omega arith)))

  pub length_seat : (u : List ℕ) (xs : List R) (i : ℕ) → Seat (map key xs) u i → i < length xs
  length_seat u [] i s = absurd s
  length_seat u (x ∷ xs) zero s = omega arith
  length_seat u (x ∷ xs) (suc i) s = let l : i < length xs = length_seat u xs i s in omega arith

  pub length_gap : (u : List ℕ) (xs : List R) (i : ℕ) → Gap (map key xs) u i → i ≤ length xs
  length_gap u xs zero g = omega arith
  length_gap u [] (suc i) g = absurd g
  length_gap u (x ∷ xs) (suc i) g = let l : i ≤ length xs = length_gap u xs i g.1 in omega arith

  seat : (u : List ℕ) (xs : List R) (i : ℕ) → i < length xs → ((d : R) → key (slice_index_or xs i d) ≡ u) → Seat (map key xs) u i
  seat u [] i l h = omega arith
  seat u (x ∷ xs) zero l h = h x
  seat u (x ∷ xs) (suc i) l h = seat u xs i (omega arith) h

  gap : (u : List ℕ) (xs : List R) (i : ℕ) → i ≤ length xs → ((j : ℕ) (d : R) → j < i → Ahead (key (slice_index_or xs j d)) u) → ((j : ℕ) (d : R) → i ≤ j → j < length xs → Ahead u (key (slice_index_or xs j d))) → Gap (map key xs) u i
  gap u xs zero l b a = all_of u xs (λ j d m. a j d (omega arith) m)
  gap u [] (suc i) l b a = omega arith
  gap u (x ∷ xs) (suc i) l b a = (b 0 x (omega arith), gap u xs i (omega arith) (λ j d m. b (suc j) d (omega arith)) (λ j d m n. a (suc j) d (omega arith) (omega arith)))

  -- what the search answers of n records, which it was given as ys
  pub seats : {K : Type 0} (octets : K → List ℕ) (k : K) (xs ys : List R) (n : ℕ) (r : Result ℕ ℕ) → ys ≡ xs → length xs ≡ n → MatchResult r (λ i. Present (λ a k. key a ≡ octets k) ys k i) (λ i. Absent (λ a k. Ahead (key a) (octets k)) (λ a k. key a ≡ octets k) (λ a k. Ahead (octets k) (key a)) ys k i) → MatchResult r (λ i. (i < n) × Seat (map key xs) (octets k) i) (λ i. (i ≤ n) × Gap (map key xs) (octets k) i)
  seats octets k xs ys n (Ok i) e l h =
      let m : length ys ≡ length xs = ap length e in
      (omega (arith, h.within), subst (λ (zs : List R). Seat (map key zs) (octets k) i) e (seat (octets k) ys i h.within h.there))
  seats octets k xs ys n (Err i) e l h =
      let m : length ys ≡ length xs = ap length e in
      (omega (arith, h.within), subst (λ (zs : List R). Gap (map key zs) (octets k) i) e (gap (octets k) ys i h.within h.below h.above))

  -- and that it may be asked
  pub rising_in : (xs ys : List R) → ys ≡ xs → Ordered Ahead (map key xs) → Rising (λ a b. Ahead (key a) (key b)) ys
  rising_in xs ys e h = rising ys (subst (λ (zs : List R). Ordered Ahead (map key zs)) (sym e) h)
