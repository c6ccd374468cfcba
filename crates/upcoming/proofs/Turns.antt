-- What the best so far is once one more override has been looked at.
use Rattle.std.proofs.Common.{◌≡◌, ℕ, ◌⊎◌, Bool, true, false, List, [], ◌∷◌, ◌++◌, Some, None, Option, MatchOption, sym, subst, inl, inr, arith}
use Rattle.series.specs.declared.changes.Override.{Override}
use Rattle.series.specs.Members.{Mem}
use Rattle.upcoming.specs.declared.keys.Key.{Key}
use Rattle.upcoming.specs.Kinds.{MovesTo, Moved, Better, BetterOf}
use Rattle.upcoming.specs.Least.{Next}
use Rattle.std.specs.Bool.{then_some}
use Rattle.source.specs.Days.{among}
use Rattle.upcoming.proofs.Finds.{among_mem, among_not}
use Rattle.upcoming.proofs.Joins.{alike, stays, takes}
use Rattle.upcoming.proofs.Moving.{one_place, moves_more, moves_less}

-- the plain ones, and those that the overrides have moved
abbrev pub Seen : (ℕ → ℕ → Type 0) → List ℕ → List Override → ℕ → ℕ → Type 0
Seen Q days os x y = Q x y ⊎ Moved days os x y

module _ (s d end : ℕ) (Q : ℕ → ℕ → Type 0) (days : List ℕ) where
  pub starting : (r : Option Key) → Next Q s d end r → Next (Seen Q days []) s d end r
  starting r h = alike s d end Q (Seen Q days []) (λ x y q. inl q) (λ x y m. elim m [ inl q ↦ q | inr n ↦ absurd n.1 ]) r h

  module _ (os : List Override) (o : Override) (best : Option Key) (h : Next (Seen Q days os) s d end best) where
    abbrev One : ℕ → ℕ → Type 0
    One x y = Mem y days × MovesTo o x y

    joined : (r : Option Key) → Next (λ x y. Seen Q days os x y ⊎ One x y) s d end r → Next (Seen Q days (os ++ o ∷ [])) s d end r
    joined r n = alike s d end (λ x y. Seen Q days os x y ⊎ One x y) (Seen Q days (os ++ o ∷ [])) into back r n
      where
        into : (x y : ℕ) → Seen Q days os x y ⊎ One x y → Seen Q days (os ++ o ∷ []) x y
        into x y (inl (inl q)) = inl q
        into x y (inl (inr m)) = inr (m.0, moves_more os o x y (inl m.1))
        into x y (inr m) = inr (m.0, moves_more os o x y (inr m.1))

        back : (x y : ℕ) → Seen Q days (os ++ o ∷ []) x y → Seen Q days os x y ⊎ One x y
        back x y (inl q) = inl (inl q)
        back x y (inr m) = elim (moves_less os o x y m.1) [ inl n ↦ inl (inr (m.0, n)) | inr n ↦ inr (m.0, n) ]

    pub passed : BetterOf o s d end best None → Next (Seen Q days (os ++ o ∷ [])) s d end best
    passed n = joined best (stays s d end (Seen Q days os) One best h (λ x y m r l. n x y m.1 r l))

    pub missing : (k : Key) → Better o s d end best k → (Mem k.day days → ⊥) → Next (Seen Q days (os ++ o ∷ [])) s d end best
    missing k b n =
        joined best (stays s d end (Seen Q days os) One best h
        (λ x y m r l. absurd (n (subst (λ (w : ℕ). Mem w days) (one_place o x y k.start k.day m.1 b.moves).1 m.0))))

    pub taken : (k : Key) → Better o s d end best k → Mem k.day days → Next (Seen Q days (os ++ o ∷ [])) s d end (Some k)
    taken k b m =
        joined (Some k) (takes s d end (Seen Q days os) One best k h (m, b.moves) b.reached b.within b.first
        (λ x y n. let e = one_place o k.start k.day x y b.moves n.1 in let u = e.0 in let v = e.1 in omega arith))

    -- the key is kept where its day is one of the days
    pub turned : (P : Key → Bool → Type 0) → ((k : Key) (b : Bool) → P k b → b ≡ among k.day days) → (n r : Option Key) → BetterOf o s d end best n
        → MatchOption n (r ≡ None) (λ k. (b : Bool) × P k b × (r ≡ then_some b k))
        → MatchOption r (Next (Seen Q days (os ++ o ∷ [])) s d end best) (λ k. Next (Seen Q days (os ++ o ∷ [])) s d end (Some k))
    turned P is None r m e = rw e (passed m)
    turned P is (Some k) r m (true, t, e) = rw e (taken k m (among_mem k.day days (sym (is k true t))))
    turned P is (Some k) r m (false, t, e) = rw e (missing k m (among_not k.day days (sym (is k false t))))
