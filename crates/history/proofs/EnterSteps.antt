-- Enter: a plan at a UID that has none.
use Rattle.std.proofs.Common.{◌≡◌, ℕ, ◌⊎◌, List, [], ◌∷◌, Some, None, sym, refl, ◌∙◌, inl, inr}
use Rattle.series.specs.Members.{Mem}
use Rattle.series.specs.Plans.{Plan, on, occurrences_of}
use Rattle.history.specs.Items.{Item, enters}
use Rattle.history.specs.States.{Map, put, puts}
use Rattle.history.specs.Explains.{In, Holds, Agree}
use Rattle.history.proofs.Members.{mem_map, map_mem}
use Rattle.history.proofs.Maps.{decide, put_same, put_other}
use Rattle.history.proofs.Steps.{Was, Moves, Renames, agree_more, was_there, in_at, at_in}

module _ (u : List ℕ) (p : Plan) (f : Map) (free : f u ≡ None) where
  abbrev g : Map
  g = put u (Some p) f

  -- what is held stands elsewhere
  apart : (w : List ℕ) (q : Plan) → f w ≡ Some q → ¬ (u ≡ w)
  apart w q held e = cc

  moves : Moves (enters u p) f g
  moves o = (λ h. forth h (decide u h.uid), back)
    where
      forth : (h : In g o) → (u ≡ h.uid) ⊎ (¬ (u ≡ h.uid)) → Mem o (occurrences_of u p) ⊎ Was (enters u p) f o
      forth h (inl q) = let t = in_at g o h u p q (put_same u (Some p) f u refl) in inl (mem_map (on u p) o p.days t.among t.is)
      forth h (inr n) = inr (o, was_there g f o o h (sym (put_other u (Some p) f h.uid n)) refl, refl)

      back : Mem o (occurrences_of u p) ⊎ Was (enters u p) f o → In g o
      back (inl m) = let r = map_mem (on u p) p.days m in at_in g o u p (put_same u (Some p) f u refl) (record { day = r.0; among = r.1; is = r.2 })
      back (inr r) = let h = r.1 in was_there f g o r.0 h (put_other u (Some p) f h.uid (apart h.uid h.plan h.held)) r.2

  renames : Renames (enters u p) f g
  renames w = (λ h. forth h (decide u w), back)
    where
      forth : Holds g w → (u ≡ w) ⊎ (¬ (u ≡ w)) → ((w ≡ u) ⊎ ⊥) ⊎ Holds f w
      forth h (inl q) = inl (inl (sym q))
      forth h (inr n) = inr (h.0, sym (put_other u (Some p) f w n) ∙ h.1)

      back : ((w ≡ u) ⊎ ⊥) ⊎ Holds f w → Holds g w
      back (inl (inl q)) = (p, put_same u (Some p) f w (sym q))
      back (inl (inr x)) = absurd x
      back (inr h) = (h.0, put_other u (Some p) f w (apart w h.0 h.1) ∙ h.1)

  pub enter_step : (items : List Item) → Agree items f → Agree (enters u p ∷ items) (puts ((u, Some p) ∷ []) f)
  enter_step items a = agree_more (enters u p) items f g moves renames a
