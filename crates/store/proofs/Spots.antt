-- Pairs by their places: what stands at one, and that writing at the place that a search gives is a put or a removal.
use Rattle.std.proofs.Common.{◌≡◌, ℕ, zero, suc, ◌+◌, ◌<◌, ◌≤◌, false, List, [], ◌∷◌, map, set, Ok, Err, Result, MatchResult, Some, None, sym, refl, ap, ◌∙◌, subst, arith}
use Rattle.std.specs.List.{insert, remove, AllByRecursion}
use Rattle.std.specs.Str.{bytes_eq}
use Rattle.std.specs.Option.{option_map}
use Rattle.std.specs.Result.{result_ok}
use Rattle.series.specs.Order.{Ahead}
use Rattle.store.specs.declared.pairs.Pair.{Pair}
use Rattle.store.specs.Pairs.{key, Ascends, pair_at, place_from, place_of, found, held, placed, without}
use Rattle.store.specs.Seats.{Seat, Gap}
use Rattle.store.specs.Keys.{Before, Same, After, before_is, same_at, after_is, ordered_keys, same_is, same_not, ahead_apart, behind_apart}
use Rattle.store.proofs.Holdings.{held_found}

-- a key ahead of all is ahead of the one at i
seat_ahead : (k : List ℕ) (ks : List (List ℕ)) (u : List ℕ) (i : ℕ) → AllByRecursion (Ahead k) ks → Seat ks u i → Ahead k u
seat_ahead k [] u i a s = absurd s
seat_ahead k (x ∷ ks) u zero a s = subst (λ (v : List ℕ). Ahead k v) s a.0
seat_ahead k (x ∷ ks) u (suc i) a s = seat_ahead k ks u i a.1 s

module _ {S : Type 0} where
  -- the key that stands at the head is not the one further on
  seat_other : (p : Pair S) (ps : List (Pair S)) (u : List ℕ) (i : ℕ) → Ascends (p ∷ ps) → Seat (map key ps) u i → Ahead (key p) u
  seat_other p ps u i h s = seat_ahead (key p) (map key ps) u i (ordered_keys key (p ∷ ps) h).0 s

  place_is_from : (n : ℕ) (u : List ℕ) (ps : List (Pair S)) (i : ℕ) → Ascends ps → Seat (map key ps) u i → place_from n u ps ≡ Some (n + i)
  place_is_from n u [] i h s = absurd s
  place_is_from n u (p ∷ ps) zero h s = let e : n ≡ n + 0 = omega arith in rw (same_is (key p) u s) (ap (λ (m : ℕ). Some m) e)
  place_is_from n u (p ∷ ps) (suc i) h s =
      let e : suc n + i ≡ n + suc i = omega arith in
      rw (same_not (key p) u (ahead_apart (key p) u (seat_other p ps u i h s))) (place_is_from (suc n) u ps i h.1 s ∙ ap (λ (m : ℕ). Some m) e)

  -- the place that a search finds
  pub place_seat : (u : List ℕ) (ps : List (Pair S)) (i : ℕ) → Ascends ps → Seat (map key ps) u i → place_of u ps ≡ Some i
  place_seat u ps i h s = let e : 0 + i ≡ i = omega arith in place_is_from 0 u ps i h s ∙ ap (λ (m : ℕ). Some m) e

  -- and where it finds none
  module _ (u : List ℕ) where
    gap_other : (p : Pair S) (ps : List (Pair S)) (i : ℕ) → Gap (map key (p ∷ ps)) u i → bytes_eq (key p) u ≡ false
    gap_other p ps zero g = same_not (key p) u (behind_apart (key p) u g.0)
    gap_other p ps (suc i) g = same_not (key p) u (ahead_apart (key p) u g.0)

    place_none : (n : ℕ) (ps : List (Pair S)) (i : ℕ) → Gap (map key ps) u i → place_from n u ps ≡ None
    place_none n [] i g = refl
    place_none n (p ∷ ps) zero g = rw (gap_other p ps 0 g) (place_none (suc n) ps 0 g.1)
    place_none n (p ∷ ps) (suc i) g = rw (gap_other p ps (suc i) g) (place_none (suc n) ps i g.1)

    pub place_gap : (ps : List (Pair S)) (i : ℕ) → Gap (map key ps) u i → place_of u ps ≡ None
    place_gap ps i g = place_none 0 ps i g

    -- as a place or none
    pub place_found : (ps : List (Pair S)) (n : ℕ) (r : Result ℕ ℕ) → Ascends ps → MatchResult r (λ i. (i < n) × Seat (map key ps) u i) (λ i. (i ≤ n) × Gap (map key ps) u i) → result_ok r ≡ place_of u ps
    place_found ps n (Ok i) h s = sym (place_seat u ps i h s.1)
    place_found ps n (Err i) h g = sym (place_gap ps i g.1)

    pub found_gap : (ps : List (Pair S)) (i : ℕ) → Gap (map key ps) u i → found u ps ≡ None
    found_gap [] i g = refl
    found_gap (p ∷ ps) zero g = rw (gap_other p ps 0 g) (found_gap ps 0 g.1)
    found_gap (p ∷ ps) (suc i) g = rw (gap_other p ps (suc i) g) (found_gap ps i g.1)

    pub held_gap : (ps : List (Pair S)) (i : ℕ) → Gap (map key ps) u i → held u ps ≡ None
    held_gap ps i g = held_found u ps ∙ ap (option_map (λ (p : Pair S). p.series)) (found_gap ps i g)

    -- the pair that stands where the key stands is the one found
    pub found_seat : (ps : List (Pair S)) (i : ℕ) (p : Pair S) → Ascends ps → Seat (map key ps) u i → pair_at ps i ≡ Some p → found u ps ≡ Some p
    found_seat [] i p h s e = absurd s
    found_seat (x ∷ ps) zero p h s e = rw (same_is (key x) u s) e
    found_seat (x ∷ ps) (suc i) p h s e = rw (same_not (key x) u (ahead_apart (key x) u (seat_other x ps u i h s))) (found_seat ps i p h.1 s e)

    pub removed_without : (ps : List (Pair S)) (i : ℕ) → Ascends ps → Seat (map key ps) u i → remove ps i ≡ without u ps
    removed_without [] i h s = absurd s
    removed_without (p ∷ ps) zero h s = rw (same_is (key p) u s)
    removed_without (p ∷ ps) (suc i) h s = rw (same_not (key p) u (ahead_apart (key p) u (seat_other p ps u i h s))) (ap (λ (qs : List (Pair S)). p ∷ qs) (removed_without ps i h.1 s))

  module _ (q : Pair S) where
    pub set_placed : (ps : List (Pair S)) (i : ℕ) → Ascends ps → Seat (map key ps) (key q) i → set ps i q ≡ placed q ps
    set_placed [] i h s = absurd s
    set_placed (p ∷ ps) zero h s = let w : Same (key q) (key p) = same_at (key q) (key p) s in rw (w.test, w.equal)
    set_placed (p ∷ ps) (suc i) h s =
        let a : After (key q) (key p) = after_is (key q) (key p) (seat_other p ps (key q) i h s) in
        rw (a.test, a.other) (ap (λ (qs : List (Pair S)). p ∷ qs) (set_placed ps i h.1 s))

    pub inserted_placed : (ps : List (Pair S)) (i : ℕ) → Gap (map key ps) (key q) i → insert ps i q ≡ placed q ps
    inserted_placed [] zero g = refl
    inserted_placed [] (suc i) g = absurd g
    inserted_placed (p ∷ ps) zero g = let b : Before (key q) (key p) = before_is (key q) (key p) g.0 in rw b.test
    inserted_placed (p ∷ ps) (suc i) g =
        let a : After (key q) (key p) = after_is (key q) (key p) g.0 in
        rw (a.test, a.other) (ap (λ (qs : List (Pair S)). p ∷ qs) (inserted_placed ps i g.1))
