-- The ordered list of plans and the map that it stands for.
use Rattle.std.proofs.Common.{◌≡◌, ℕ, true, false, cond, ◌⊎◌, List, [], ◌∷◌, ◌++◌, Some, None, Option, sym, refl, ap, ◌∙◌, subst, inl, inr}
use mathlib.Core.Path.{fun_ext}
use Rattle.std.specs.List.{AllByRecursion}
use Rattle.std.specs.Str.{bytes_eq}
use Rattle.series.specs.Members.{Mem}
use Rattle.series.specs.Order.{Ahead, precedes}
use Rattle.series.specs.Plans.{Plan, Occurrence, on, occurrences_of}
use Rattle.series.proofs.Orders.{chain, irreflexive, asymmetric, trichotomy, ahead_precedes, precedes_false}
use Rattle.history.specs.States.{Plans, Ascends, at, put, leading, placing, puts, occurrences}
use Rattle.history.specs.Explains.{In}
use Rattle.history.specs.PlanLaws.{PlacedIsPut, PlacedIsPuts, StaysAscending, OccurrencesOfMap}
use Rattle.history.proofs.Members.{mem_append, mem_append_left, mem_append_right, mem_map, map_mem}
use Rattle.history.proofs.Maps.{same_uid, other_uid, decide}

abbrev Above : List ℕ → Plans → Type 0
Above u ps = AllByRecursion (λ q. Ahead u q.0) ps

lower : (u w : List ℕ) (ps : Plans) → Ahead u w → Above w ps → Above u ps
lower u w [] h a = tt
lower u w (p ∷ ps) h a = (chain u w p.0 h a.0, lower u w ps h a.1)

apart : (u w : List ℕ) → Ahead u w → ¬ (w ≡ u)
apart u w h e = irreflexive u (subst (Ahead u) e h)

at_same : (p : List ℕ × Plan) (ps : Plans) (u : List ℕ) → p.0 ≡ u → at (p ∷ ps) u ≡ Some p.1
at_same p ps u e = ap (λ b. cond b (Some p.1) (at ps u)) (same_uid e)

at_other : (p : List ℕ × Plan) (ps : Plans) (u : List ℕ) → ¬ (p.0 ≡ u) → at (p ∷ ps) u ≡ at ps u
at_other p ps u n = ap (λ b. cond b (Some p.1) (at ps u)) (other_uid n)

none_below : (u : List ℕ) (ps : Plans) → Above u ps → at ps u ≡ None
none_below u [] a = refl
none_below u (p ∷ ps) a = at_other p ps u (apart u p.0 a.0) ∙ none_below u ps a.1

at_leading : (u : List ℕ) (v : Option Plan) (ps : Plans) (w : List ℕ) → at ps u ≡ None → at (leading u v ps) w ≡ put u v (at ps) w
at_leading u (Some p) ps w e = refl
at_leading u None ps w e = go (decide u w)
  where
    go : (u ≡ w) ⊎ (¬ (u ≡ w)) → at ps w ≡ cond (bytes_eq u w) None (at ps w)
    go (inl q) = ap (at ps) (sym q) ∙ e ∙ sym (ap (λ b. cond b None (at ps w)) (same_uid q))
    go (inr n) = sym (ap (λ b. cond b None (at ps w)) (other_uid n))

above_leading : (k u : List ℕ) (v : Option Plan) (ps : Plans) → Ahead k u → Above k ps → Above k (leading u v ps)
above_leading k u None ps h a = a
above_leading k u (Some p) ps h a = (h, a)

asc_leading : (u : List ℕ) (v : Option Plan) (ps : Plans) → Above u ps → Ascends ps → Ascends (leading u v ps)
asc_leading u None ps a h = h
asc_leading u (Some p) ps a h = (a, h)

-- where u stands to w, with the values of the tests
data Way (u w : List ℕ) : Type 0 where
  less : precedes u w ≡ true → Ahead u w → Way u w
  equal : precedes u w ≡ false → bytes_eq w u ≡ true → w ≡ u → Way u w
  more : precedes u w ≡ false → bytes_eq w u ≡ false → Ahead w u → Way u w

way : (u w : List ℕ) → Way u w
way u w = elim (trichotomy u w) [
  | inl h ↦ less (ahead_precedes u w h) h
  | inr k ↦ elim k [
    | inl e ↦ equal (precedes_false u w (λ h. apart u w h (sym e))) (same_uid (sym e)) (sym e)
    | inr h ↦ more (precedes_false u w (λ k. asymmetric u w k h)) (other_uid (λ (e : w ≡ u). apart w u h (sym e))) h
  ]
]

above_placing : (k u : List ℕ) (v : Option Plan) (ps : Plans) → Ahead k u → Above k ps → Above k (placing u v ps)
above_placing k u v [] h a = above_leading k u v [] h tt
above_placing k u v (p ∷ ps) h a = go (way u p.0) (above_placing k u v ps h a.1)
  where
    go : Way u p.0 → Above k (placing u v ps) → Above k (placing u v (p ∷ ps))
    go (less l q) ih = rw l (above_leading k u v (p ∷ ps) h a)
    go (equal l e q) ih = rw (l, e) (above_leading k u v ps h a.1)
    go (more l e q) ih = rw (l, e) (a.0, ih)

pub asc_placing : (u : List ℕ) (v : Option Plan) (ps : Plans) → Ascends ps → Ascends (placing u v ps)
asc_placing u v [] h = asc_leading u v [] tt tt
asc_placing u v (p ∷ ps) h = go (way u p.0) (asc_placing u v ps h.1)
  where
    go : Way u p.0 → Ascends (placing u v ps) → Ascends (placing u v (p ∷ ps))
    go (less l q) ih = rw l (asc_leading u v (p ∷ ps) (q, lower u p.0 ps q h.0) h)
    go (equal l e q) ih = rw (l, e) (asc_leading u v ps (subst (λ k. Above k ps) q h.0) h.1)
    go (more l e q) ih = rw (l, e) (above_placing p.0 u v ps q h.0, ih)

-- putting at u, and then at the first of the list, is as the list has it
over : (u : List ℕ) (v : Option Plan) (p : List ℕ × Plan) (ps : Plans) (w : List ℕ) → p.0 ≡ u → put u v (at ps) w ≡ put u v (at (p ∷ ps)) w
over u v p ps w e = go (decide u w)
  where
    go : (u ≡ w) ⊎ (¬ (u ≡ w)) → put u v (at ps) w ≡ put u v (at (p ∷ ps)) w
    go (inl q) = ap (λ b. cond b v (at ps w)) (same_uid q) ∙ sym (ap (λ b. cond b v (at (p ∷ ps) w)) (same_uid q))
    go (inr n) = ap (λ x. cond (bytes_eq u w) v x) (sym (at_other p ps w (λ q. n (sym e ∙ q))))

past : (u : List ℕ) (v : Option Plan) (p : List ℕ × Plan) (ps : Plans) (w : List ℕ) → Ahead p.0 u → cond (bytes_eq p.0 w) (Some p.1) (put u v (at ps) w) ≡ put u v (at (p ∷ ps)) w
past u v p ps w h = go (decide p.0 w)
  where
    go : (p.0 ≡ w) ⊎ (¬ (p.0 ≡ w)) → cond (bytes_eq p.0 w) (Some p.1) (put u v (at ps) w) ≡ put u v (at (p ∷ ps)) w
    go (inl q) = ap (λ b. cond b (Some p.1) (put u v (at ps) w)) (same_uid q) ∙ sym (at_same p ps w q) ∙ sym (ap (λ b. cond b v (at (p ∷ ps) w)) (other_uid (λ (e : u ≡ w). apart p.0 u h (e ∙ sym q))))
    go (inr n) = ap (λ b. cond b (Some p.1) (put u v (at ps) w)) (other_uid n) ∙ ap (λ x. cond (bytes_eq u w) v x) (sym (at_other p ps w n))

pub at_placing : (u : List ℕ) (v : Option Plan) (ps : Plans) → Ascends ps → (w : List ℕ) → at (placing u v ps) w ≡ put u v (at ps) w
at_placing u v [] h w = at_leading u v [] w refl
at_placing u v (p ∷ ps) h w = go (way u p.0) (at_placing u v ps h.1 w)
  where
    go : Way u p.0 → at (placing u v ps) w ≡ put u v (at ps) w → at (placing u v (p ∷ ps)) w ≡ put u v (at (p ∷ ps)) w
    go (less l q) ih = rw l (at_leading u v (p ∷ ps) w (none_below u (p ∷ ps) (q, lower u p.0 ps q h.0)))
    go (equal l e q) ih = rw (l, e) (at_leading u v ps w (none_below u ps (subst (λ k. Above k ps) q h.0)) ∙ over u v p ps w q)
    go (more l e q) ih = rw (l, e, ih) (past u v p ps w q)

pub placed_is_put : PlacedIsPut
placed_is_put u v ps h = fun_ext (at_placing u v ps h)

pub asc_placings : StaysAscending
asc_placings [] ps h = h
asc_placings (e ∷ es) ps h = asc_placings es (placing e.0 e.1 ps) (asc_placing e.0 e.1 ps h)

pub at_placings : PlacedIsPuts
at_placings [] ps h = refl
at_placings (e ∷ es) ps h = at_placings es (placing e.0 e.1 ps) (asc_placing e.0 e.1 ps h) ∙ ap (puts es) (placed_is_put e.0 e.1 ps h)

-- the list's occurrences are the map's
occurs : (ps : Plans) → Ascends ps → (o : Occurrence) → Mem o (occurrences ps) → In (at ps) o
occurs [] h o m = absurd m
occurs (p ∷ ps) h o m = elim (mem_append o (occurrences_of p.0 p.1) (occurrences ps) m) [
  | inl k ↦ (let r = map_mem (on p.0 p.1) p.1.days k in record { uid = p.0; plan = p.1; day = r.0; held = at_same p ps p.0 refl; among = r.1; is = r.2 })
  | inr k ↦ tail (occurs ps h.1 o k) (decide _ _)
]
  where
    tail : (i : In (at ps) o) → (p.0 ≡ i.uid) ⊎ (¬ (p.0 ≡ i.uid)) → In (at (p ∷ ps)) o
    tail i (inl q) = cc (none_below p.0 ps h.0)
    tail i (inr n) = record { uid = i.uid; plan = i.plan; day = i.day; held = at_other p ps i.uid n ∙ i.held; among = i.among; is = i.is }

found : (ps : Plans) (u : List ℕ) (s : Plan) (o : Occurrence) → at ps u ≡ Some s → Mem o (occurrences_of u s) → Mem o (occurrences ps)
found [] u s o e m = cc
found (p ∷ ps) u s o e m = go (decide p.0 u) (found ps u s o)
  where
    go : (p.0 ≡ u) ⊎ (¬ (p.0 ≡ u)) → (at ps u ≡ Some s → Mem o (occurrences_of u s) → Mem o (occurrences ps)) → Mem o (occurrences_of p.0 p.1 ++ occurrences ps)
    go (inl q) ih =
        let same : p.1 ≡ s = cc (at_same p ps u q) in
        mem_append_left o (occurrences_of p.0 p.1) (occurrences ps) (subst (Mem o) (λ j. occurrences_of (sym q j) (sym same j)) m)
    go (inr n) ih = mem_append_right o (occurrences_of p.0 p.1) (occurrences ps) (ih (sym (at_other p ps u n) ∙ e) m)

pub occurrences_in : OccurrencesOfMap
occurrences_in ps h o = (occurs ps h o, λ i. found ps i.uid i.plan o i.held (mem_map (on i.uid i.plan) o i.plan.days i.among i.is))
