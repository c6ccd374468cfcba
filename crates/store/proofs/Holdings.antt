-- What is held after a put and after a removal, and that ascending pairs are known by what they hold.
use Rattle.std.proofs.Common.{◌≡◌, ℕ, suc, true, false, cond, ◌⊎◌, List, [], ◌∷◌, length, Some, None, sym, refl, ap, ◌∙◌, subst, ⊎_elim, arith}
use Rattle.std.specs.List.{AllByRecursion}
use Rattle.std.specs.Str.{bytes_eq}
use Rattle.std.specs.Option.{option_map}
use Rattle.std.proofs.ByRecursion.{All-weaker}
use Rattle.series.specs.declared.stored.StoredSeries.{StoredSeries}
use Rattle.series.specs.Order.{Ahead}
use Rattle.series.proofs.Orders.{chain}
use Rattle.store.specs.declared.pairs.Pair.{Pair}
use Rattle.store.specs.Pairs.{key, Ascends, found, held, placed, without}
use Rattle.store.specs.Keys.{Before, Same, After, ways, same_is, same_not, same_tells, behind_apart}

module _ {S : Type 0} where
  -- the series held is that of the pair found
  pub held_found : (u : List ℕ) (ps : List (Pair S)) → held u ps ≡ option_map (λ (p : Pair S). p.series) (found u ps)
  held_found u [] = refl
  held_found u (p ∷ ps) =
      ⊎_elim
      (λ (t : (bytes_eq (key p) u ≡ true) × (key p ≡ u)). rw t.0)
      (λ (f : (bytes_eq (key p) u ≡ false) × (key p ≡ u → ⊥)). rw f.0 (held_found u ps))
      (same_tells (key p) u)

  pub found_placed : (u : List ℕ) (q : Pair S) (ps : List (Pair S)) → found u (placed q ps) ≡ cond (bytes_eq (key q) u) (Some q) (found u ps)
  found_placed u q [] = refl
  found_placed u q (p ∷ ps) =
      ⊎_elim
      (λ (b : Before (key q) (key p)). rw b.test)
      (λ (r : Same (key q) (key p) ⊎ After (key q) (key p)).
      ⊎_elim
      (λ (s : Same (key q) (key p)).
      rw (s.test, s.equal)
      (⊎_elim
      (λ (t : (bytes_eq (key q) u ≡ true) × (key q ≡ u)). rw t.0)
      (λ (f : (bytes_eq (key q) u ≡ false) × (key q ≡ u → ⊥)). rw (f.0, same_not (key p) u (λ e. f.1 (sym s.same ∙ e))))
      (same_tells (key q) u)))
      (λ (a : After (key q) (key p)).
      rw (a.test, a.other)
      (⊎_elim
      (λ (t : (bytes_eq (key p) u ≡ true) × (key p ≡ u)). rw (t.0, same_not (key q) u (λ e. behind_apart (key q) (key p) a.ahead (e ∙ sym t.1))))
      (λ (f : (bytes_eq (key p) u ≡ false) × (key p ≡ u → ⊥)). rw f.0 (found_placed u q ps))
      (same_tells (key p) u)))
      r)
      (ways (key q) (key p))

  -- what stands ahead of all has no pair
  pub found_ahead : (u : List ℕ) (ps : List (Pair S)) → AllByRecursion (λ p. Ahead u (key p)) ps → found u ps ≡ None
  found_ahead u [] a = refl
  found_ahead u (p ∷ ps) a = rw (same_not (key p) u (behind_apart (key p) u a.0)) (found_ahead u ps a.1)

  -- the same, of the key of a pair that comes before
  after_same : (p : Pair S) (u : List ℕ) (ps : List (Pair S)) → key p ≡ u → AllByRecursion (λ q. Ahead (key p) (key q)) ps → found u ps ≡ None
  after_same p u ps e a = found_ahead u ps (subst (λ (k : List ℕ). AllByRecursion (λ (q : Pair S). Ahead k (key q)) ps) e a)

  pub found_without : (u v : List ℕ) (ps : List (Pair S)) → Ascends ps → found u (without v ps) ≡ cond (bytes_eq v u) None (found u ps)
  found_without u v [] h =
      ⊎_elim
      (λ (t : (bytes_eq v u ≡ true) × (v ≡ u)). rw t.0)
      (λ (f : (bytes_eq v u ≡ false) × (v ≡ u → ⊥)). rw f.0)
      (same_tells v u)
  found_without u v (p ∷ ps) h =
      ⊎_elim
      (λ (t : (bytes_eq (key p) v ≡ true) × (key p ≡ v)).
      rw t.0
      (⊎_elim
      (λ (s : (bytes_eq v u ≡ true) × (v ≡ u)). rw s.0 (after_same p u ps (t.1 ∙ s.1) h.0))
      (λ (f : (bytes_eq v u ≡ false) × (v ≡ u → ⊥)). rw (f.0, same_not (key p) u (λ e. f.1 (sym t.1 ∙ e))))
      (same_tells v u)))
      (λ (n : (bytes_eq (key p) v ≡ false) × (key p ≡ v → ⊥)).
      rw n.0
      (⊎_elim
      (λ (t : (bytes_eq (key p) u ≡ true) × (key p ≡ u)). rw (t.0, same_not v u (λ e. n.1 (t.1 ∙ sym e))))
      (λ (f : (bytes_eq (key p) u ≡ false) × (key p ≡ u → ⊥)). rw f.0 (found_without u v ps h.1))
      (same_tells (key p) u)))
      (same_tells (key p) v)

  -- the same of series
  pub held_placed : (u : List ℕ) (q : Pair S) (ps : List (Pair S)) → held u (placed q ps) ≡ cond (bytes_eq (key q) u) (Some q.series) (held u ps)
  held_placed u q ps =
      held_found u (placed q ps) ∙ ap (option_map (λ (p : Pair S). p.series)) (found_placed u q ps)
      ∙ ⊎_elim
      (λ (t : (bytes_eq (key q) u ≡ true) × (key q ≡ u)). rw t.0)
      (λ (f : (bytes_eq (key q) u ≡ false) × (key q ≡ u → ⊥)). rw f.0 (sym (held_found u ps)))
      (same_tells (key q) u)

  pub held_without : (u v : List ℕ) (ps : List (Pair S)) → Ascends ps → held u (without v ps) ≡ cond (bytes_eq v u) None (held u ps)
  held_without u v ps h =
      held_found u (without v ps) ∙ ap (option_map (λ (p : Pair S). p.series)) (found_without u v ps h)
      ∙ ⊎_elim
      (λ (t : (bytes_eq v u ≡ true) × (v ≡ u)). rw t.0)
      (λ (f : (bytes_eq v u ≡ false) × (v ≡ u → ⊥)). rw f.0 (sym (held_found u ps)))
      (same_tells v u)

  -- who stands ahead of all that are there, and of what is put, stands ahead of all that are then there
  all_placed : (P : Pair S → Type 0) (q : Pair S) (ps : List (Pair S)) → P q → AllByRecursion P ps → AllByRecursion P (placed q ps)
  all_placed P q [] h a = (h, tt)
  all_placed P q (p ∷ ps) h a =
      ⊎_elim
      (λ (b : Before (key q) (key p)). rw b.test (h, a))
      (λ (r : Same (key q) (key p) ⊎ After (key q) (key p)).
      ⊎_elim
      (λ (s : Same (key q) (key p)). rw (s.test, s.equal) (h, a.1))
      (λ (f : After (key q) (key p)). rw (f.test, f.other) (a.0, all_placed P q ps h a.1))
      r)
      (ways (key q) (key p))

  all_without : (P : Pair S → Type 0) (u : List ℕ) (ps : List (Pair S)) → AllByRecursion P ps → AllByRecursion P (without u ps)
  all_without P u [] a = tt
  all_without P u (p ∷ ps) a =
      ⊎_elim
      (λ (t : (bytes_eq (key p) u ≡ true) × (key p ≡ u)). rw t.0 a.1)
      (λ (f : (bytes_eq (key p) u ≡ false) × (key p ≡ u → ⊥)). rw f.0 (a.0, all_without P u ps a.1))
      (same_tells (key p) u)

  pub ascends_placed : (q : Pair S) (ps : List (Pair S)) → Ascends ps → Ascends (placed q ps)
  ascends_placed q [] h = (tt, tt)
  ascends_placed q (p ∷ ps) h =
      ⊎_elim
      (λ (b : Before (key q) (key p)).
      rw b.test ((b.ahead, All-weaker (λ (r : Pair S). Ahead (key p) (key r)) (λ (r : Pair S). Ahead (key q) (key r)) (λ r k. chain (key q) (key p) (key r) b.ahead k) ps h.0), h))
      (λ (r : Same (key q) (key p) ⊎ After (key q) (key p)).
      ⊎_elim
      (λ (s : Same (key q) (key p)). rw (s.test, s.equal) (subst (λ (k : List ℕ). AllByRecursion (λ (r : Pair S). Ahead k (key r)) ps) s.same h.0, h.1))
      (λ (f : After (key q) (key p)). rw (f.test, f.other) (all_placed (λ (r : Pair S). Ahead (key p) (key r)) q ps f.ahead h.0, ascends_placed q ps h.1))
      r)
      (ways (key q) (key p))

  pub ascends_without : (u : List ℕ) (ps : List (Pair S)) → Ascends ps → Ascends (without u ps)
  ascends_without u [] h = tt
  ascends_without u (p ∷ ps) h =
      ⊎_elim
      (λ (t : (bytes_eq (key p) u ≡ true) × (key p ≡ u)). rw t.0 h.1)
      (λ (f : (bytes_eq (key p) u ≡ false) × (key p ≡ u → ⊥)). rw f.0 (all_without (λ (r : Pair S). Ahead (key p) (key r)) u ps h.0, ascends_without u ps h.1))
      (same_tells (key p) u)

  -- how many there are then
  pub length_held : (q : Pair S) (ps : List (Pair S)) (s : StoredSeries S) → Ascends ps → held (key q) ps ≡ Some s → length (placed q ps) ≡ length ps
  length_held q [] s h e = let z : ◌≡◌ {A = ℕ} 0 1 = cc in absurd (omega arith)
  length_held q (p ∷ ps) s h e =
      ⊎_elim
      (λ (b : Before (key q) (key p)).
      let all : AllByRecursion (λ (r : Pair S). Ahead (key q) (key r)) ps = All-weaker (λ (r : Pair S). Ahead (key p) (key r)) (λ (r : Pair S). Ahead (key q) (key r)) (λ r k. chain (key q) (key p) (key r) b.ahead k) ps h.0 in
      let n : held (key q) (p ∷ ps) ≡ None = held_found (key q) (p ∷ ps) ∙ ap (option_map (λ (r : Pair S). r.series)) (found_ahead (key q) (p ∷ ps) (b.ahead, all)) in
      let z : ◌≡◌ {A = ℕ} 0 1 = cc in
      absurd (omega arith))
      (λ (r : Same (key q) (key p) ⊎ After (key q) (key p)).
      ⊎_elim
      (λ (w : Same (key q) (key p)). rw (w.test, w.equal))
      (λ (f : After (key q) (key p)). let e' : held (key q) ps ≡ Some s = rw f.other at e in rw (f.test, f.other) (ap suc (length_held q ps s h.1 e')))
      r)
      (ways (key q) (key p))

  pub length_new : (q : Pair S) (ps : List (Pair S)) → held (key q) ps ≡ None → length (placed q ps) ≡ suc (length ps)
  length_new q [] e = refl
  length_new q (p ∷ ps) e =
      ⊎_elim
      (λ (b : Before (key q) (key p)). rw b.test)
      (λ (r : Same (key q) (key p) ⊎ After (key q) (key p)).
      ⊎_elim
      (λ (w : Same (key q) (key p)). let e' : Some p.series ≡ None = rw w.equal at e in let z : ◌≡◌ {A = ℕ} 0 1 = cc in absurd (omega arith))
      (λ (f : After (key q) (key p)). let e' : held (key q) ps ≡ None = rw f.other at e in rw (f.test, f.other) (ap suc (length_new q ps e')))
      r)
      (ways (key q) (key p))

  pub length_without : (u : List ℕ) (ps : List (Pair S)) (s : StoredSeries S) → held u ps ≡ Some s → suc (length (without u ps)) ≡ length ps
  length_without u [] s e = let z : ◌≡◌ {A = ℕ} 0 1 = cc in absurd (omega arith)
  length_without u (p ∷ ps) s e =
      ⊎_elim
      (λ (t : (bytes_eq (key p) u ≡ true) × (key p ≡ u)). rw t.0)
      (λ (f : (bytes_eq (key p) u ≡ false) × (key p ≡ u → ⊥)). let e' : held u ps ≡ Some s = rw f.0 at e in rw f.0 (ap suc (length_without u ps s e')))
      (same_tells (key p) u)

  pub without_absent : (u : List ℕ) (ps : List (Pair S)) → held u ps ≡ None → without u ps ≡ ps
  without_absent u [] e = refl
  without_absent u (p ∷ ps) e =
      ⊎_elim
      (λ (t : (bytes_eq (key p) u ≡ true) × (key p ≡ u)). let e' : Some p.series ≡ None = rw t.0 at e in let z : ◌≡◌ {A = ℕ} 0 1 = cc in absurd (omega arith))
      (λ (f : (bytes_eq (key p) u ≡ false) × (key p ≡ u → ⊥)). let e' : held u ps ≡ None = rw f.0 at e in rw f.0 (ap (λ (qs : List (Pair S)). p ∷ qs) (without_absent u ps e')))
      (same_tells (key p) u)

  -- ascending pairs in which each key finds the same are the same
  found_here : (p : Pair S) (ps : List (Pair S)) → found (key p) (p ∷ ps) ≡ Some p
  found_here p ps = rw (same_is (key p) (key p) refl)

  all_ahead : (p q : Pair S) (qs : List (Pair S)) → Ahead (key p) (key q) → AllByRecursion (λ r. Ahead (key q) (key r)) qs → found (key p) (q ∷ qs) ≡ None
  all_ahead p q qs h a = found_ahead (key p) (q ∷ qs) (h, All-weaker (λ (r : Pair S). Ahead (key q) (key r)) (λ (r : Pair S). Ahead (key p) (key r)) (λ r k. chain (key p) (key q) (key r) h k) qs a)

  pub known_by_found : (ps qs : List (Pair S)) → Ascends ps → Ascends qs → ((u : List ℕ) → found u ps ≡ found u qs) → ps ≡ qs
  known_by_found [] [] h k f = refl
  known_by_found [] (q ∷ qs) h k f = let e : found (key q) [] ≡ Some q = f (key q) ∙ found_here q qs in let z : ◌≡◌ {A = ℕ} 0 1 = cc in absurd (omega arith)
  known_by_found (p ∷ ps) [] h k f = let e : found (key p) [] ≡ Some p = sym (f (key p)) ∙ found_here p ps in let z : ◌≡◌ {A = ℕ} 0 1 = cc in absurd (omega arith)
  known_by_found (p ∷ ps) (q ∷ qs) h k f =
      ⊎_elim
      (λ (b : Before (key p) (key q)).
      let e : Some p ≡ None = sym (found_here p ps) ∙ f (key p) ∙ all_ahead p q qs b.ahead k.0 in
      let z : ◌≡◌ {A = ℕ} 0 1 = cc in
      absurd (omega arith))
      (λ (r : Same (key p) (key q) ⊎ After (key p) (key q)).
      ⊎_elim
      (λ (w : Same (key p) (key q)).
      let e : Some p ≡ Some q = sym (found_here p ps) ∙ f (key p) ∙ ap (λ (u : List ℕ). found u (q ∷ qs)) (sym w.same) ∙ found_here q qs in
      let i : p ≡ q = cc in
      let t : ps ≡ qs = known_by_found ps qs h.1 k.1 (λ u.
      ⊎_elim
      (λ (y : (bytes_eq (key p) u ≡ true) × (key p ≡ u)). after_same p u ps y.1 h.0 ∙ sym (after_same q u qs (w.same ∙ y.1) k.0))
      (λ (n : (bytes_eq (key p) u ≡ false) × (key p ≡ u → ⊥)).
      let m : bytes_eq (key q) u ≡ false = same_not (key q) u (λ e. n.1 (sym w.same ∙ e)) in
      let g : found u ps ≡ found u qs = rw (n.0, m) at (f u) in
      g)
      (same_tells (key p) u)) in
      λ j. i j ∷ t j)
      (λ (a : After (key p) (key q)).
      let e : Some q ≡ None = sym (found_here q qs) ∙ sym (f (key q)) ∙ all_ahead q p ps a.ahead h.0 in
      let z : ◌≡◌ {A = ℕ} 0 1 = cc in
      absurd (omega arith))
      r)
      (ways (key p) (key q))
