-- A shown occurrence is a plain or a moved one, and the overrides say which.
use Rattle.std.proofs.Common.{◌≡◌, ℕ, ◌+◌, ◌≤◌, true, false, eqb, ◌≢◌, ◌⊎◌, List, [], ◌∷◌, ◌++◌, is_some, Some, None, Option, sym, refl, ap, ◌∙◌, inl, inr, arith}
use Rattle.std.proofs.lemmas.Bool.Decides.{eqb_tells}
use Rattle.std.proofs.lemmas.Bool.{eq-eqb, ne_eqb}
use Rattle.std.specs.Option.{option_map}
use Rattle.calendar.specs.Starts.{start_of}
use Rattle.series.specs.declared.changes.Change.{Change}
use Rattle.series.specs.declared.changes.Change.TheVariants.{Cancelled, Altered}
use Rattle.series.specs.declared.changes.Override.{Override}
use Rattle.series.specs.Marks.{Mark, plain, mark_of, mark_on, mark_from, overrides_fit}
use Rattle.series.specs.Plans.{Plan, start_by, live_by}
use Rattle.series.proofs.Fitting.{fits}
use Rattle.upcoming.specs.Shown.{Shows}
use Rattle.upcoming.specs.Kinds.{Plain, StartsAt, MovesTo, Moves, Moved}

-- the override moves its day to one place
pub one_place : (o : Override) (s d x y : ℕ) → MovesTo o s d → MovesTo o x y → (s ≡ x) × (d ≡ y)
one_place o s d x y m n = go o.change m.1 n.1
  where
    go : (c : Change) → StartsAt c s → StartsAt c x → (s ≡ x) × (d ≡ y)
    go Cancelled a b = absurd a
    go (Altered t) a b = (a ∙ sym b, m.0 ∙ sym n.0)

-- one more override
pub moves_more : (os : List Override) (o : Override) (s d : ℕ) → Moves os s d ⊎ MovesTo o s d → Moves (os ++ o ∷ []) s d
moves_more [] o s d (inl m) = absurd m
moves_more [] o s d (inr m) = inl m
moves_more (x ∷ xs) o s d (inl (inl m)) = inl m
moves_more (x ∷ xs) o s d (inl (inr m)) = inr (moves_more xs o s d (inl m))
moves_more (x ∷ xs) o s d (inr m) = inr (moves_more xs o s d (inr m))

pub moves_less : (os : List Override) (o : Override) (s d : ℕ) → Moves (os ++ o ∷ []) s d → Moves os s d ⊎ MovesTo o s d
moves_less [] o s d (inl m) = inr m
moves_less [] o s d (inr m) = absurd m
moves_less (x ∷ xs) o s d (inl m) = inl (inl m)
moves_less (x ∷ xs) o s d (inr m) = elim (moves_less xs o s d m) [ inl n ↦ inl (inr n) | inr n ↦ inr n ]

-- a day that an override moves is live, and starts there
pub record Settled (n : ℕ) (os : List Override) (s d : ℕ) : Type 0 where
  pub low : n ≤ d
  pub alive : live_by (mark_on os d) ≡ true
  pub starts : (t : ℕ) → s ≡ start_by (mark_on os d) t

settled : (n : ℕ) (os : List Override) → overrides_fit n os ≡ true → (s d : ℕ) → Moves os s d → Settled n os s d
settled n [] h s d m = absurd m
settled n (o ∷ os) h s d (inl m) =
    let low = (fits n o os h).low in
    let e : d ≡ o.day = m.0 in
    let w : (live_by (mark_of o.change) ≡ true) × ((t : ℕ) → s ≡ start_by (mark_of o.change) t) = go o.change m.1 in
    let q : eqb o.day d ≡ true = eq-eqb o.day d (sym e) in
    record { low = omega arith; alive = rw q w.0; starts = rw q w.1 }
  where
    go : (c : Change) → StartsAt c s → (live_by (mark_of c) ≡ true) × ((t : ℕ) → s ≡ start_by (mark_of c) t)
    go Cancelled a = absurd a
    go (Altered t) a = (refl, λ u. a)
settled n (o ∷ os) h s d (inr m) =
    let f = fits n o os h in
    let low = f.low in
    let r = settled (o.day + 1) os f.rest s d m in
    let l : o.day + 1 ≤ d = r.low in
    let q : eqb o.day d ≡ false = ne_eqb o.day d (omega arith) in
    record { low = omega arith; alive = rw q r.alive; starts = rw q r.starts }

-- a live day is plain, or an override moves it
kind : (os : List Override) (s d t : ℕ) → live_by (mark_on os d) ≡ true → s ≡ start_by (mark_on os d) t → ((mark_on os d ≡ plain) × (s ≡ t)) ⊎ Moves os s d
kind [] s d t a e = inl (refl, e)
kind (o ∷ os) s d t a e = go (kind os s d t) (eqb_tells o.day d)
  where
    of : (c : Change) → d ≡ o.day → live_by (mark_of c) ≡ true → s ≡ start_by (mark_of c) t → StartsAt c s
    of Cancelled q l b = let z : ◌≡◌ {A = ℕ} 0 1 = cc in absurd (omega arith)
    of (Altered u) q l b = b

    go : (live_by (mark_on os d) ≡ true → s ≡ start_by (mark_on os d) t → ((mark_on os d ≡ plain) × (s ≡ t)) ⊎ Moves os s d) → ((eqb o.day d ≡ true) × (o.day ≡ d)) ⊎ ((eqb o.day d ≡ false) × (o.day ≢ d)) → ((mark_on (o ∷ os) d ≡ plain) × (s ≡ t)) ⊎ Moves (o ∷ os) s d
    go ih (inl y) =
        let l : live_by (mark_of o.change) ≡ true = rw y.0 at a in
        let b : s ≡ start_by (mark_of o.change) t = rw y.0 at e in
        inr (inl (sym y.1, of o.change (sym y.1) l b))
    go ih (inr f) =
        let l : live_by (mark_on os d) ≡ true = rw f.0 at a in
        let b : s ≡ start_by (mark_on os d) t = rw f.0 at e in
        elim (ih l b) [ inl k ↦ inl (rw f.0 k.0, k.1) | inr m ↦ inr (inr m) ]

module _ (p : Plan) (os : List Override) (fit : overrides_fit 0 os ≡ true) (is : (d : ℕ) → p.marks d ≡ mark_on os d) where
  pub shown : (s d : ℕ) → Plain p s d ⊎ Moved p.days os s d → Shows p s d
  shown s d (inl m) = record { among = m.among; alive = ap live_by m.unmarked; starts = m.starts ∙ ap (λ k. start_by k (start_of d p.clock)) (sym m.unmarked) }
  shown s d (inr m) =
      let r = settled 0 os fit s d m.1 in
      record { among = m.0; alive = ap live_by (is d) ∙ r.alive; starts = r.starts (start_of d p.clock) ∙ ap (λ k. start_by k (start_of d p.clock)) (sym (is d)) }

  pub kinds : (s d : ℕ) → Shows p s d → Plain p s d ⊎ Moved p.days os s d
  kinds s d h =
      elim (kind os s d (start_of d p.clock) (ap live_by (sym (is d)) ∙ h.alive) (h.starts ∙ ap (λ k. start_by k (start_of d p.clock)) (is d))) [
        | inl k ↦ inl (record { among = h.among; unmarked = is d ∙ k.0; starts = k.1 })
        | inr m ↦ inr (h.among, m)
      ]

module _ {X : Type 0} (f : X → Change) (m : Mark) where
  -- a day without a change is plain, and one with a change is not
  pub unmarked : (r : Option X) → mark_from (option_map f r) ≡ m → is_some r ≡ false → m ≡ plain
  unmarked None e n = sym e
  unmarked (Some x) e n = let z : ◌≡◌ {A = ℕ} 0 1 = cc in absurd (omega arith)

  pub marked : (r : Option X) → mark_from (option_map f r) ≡ m → is_some r ≡ true → m ≡ plain → ⊥
  marked None e n q = let z : ◌≡◌ {A = ℕ} 0 1 = cc in omega arith
  marked (Some x) e n q = go (f x) (e ∙ q)
    where
      go : (c : Change) → mark_of c ≡ plain → ⊥
      go Cancelled k = let z : ◌≡◌ {A = ℕ} 0 1 = cc in omega arith
      go (Altered a) k = let z : ◌≡◌ {A = ℕ} 0 1 = cc in omega arith
