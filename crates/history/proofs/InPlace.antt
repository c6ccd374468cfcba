-- An edit of one series in its place: it keeps its days and its UID, and touches no other.
use Rattle.std.proofs.Common.{◌≡◌, ℕ, Bool, cond, ◌&&◌, eqb, ◌⊎◌, List, [], ◌∷◌, Some, sym, refl, ap, ◌∙◌, subst, inl, inr, arith}
use Rattle.std.specs.Str.{bytes_eq}
use Rattle.std.proofs.lemmas.Bool.Decides.{nat_tests}
use Rattle.series.specs.Members.{Mem}
use Rattle.series.specs.Marks.{Mark}
use Rattle.series.specs.Plans.{Plan, Occurrence, on}
use Rattle.history.specs.Occurrences.{marked}
use Rattle.history.specs.MarkedPlans.{marked_plan}
use Rattle.history.specs.Items.{Item, Edit, edits, edited, edit_uid, edit_new}
use Rattle.history.specs.States.{Map, put, puts}
use Rattle.history.specs.Explains.{In, Holds, Agree}
use Rattle.history.proofs.Maps.{own_uid, other_uid, decide, put_same, put_other}
use Rattle.history.proofs.Steps.{Was, Moves, Renames, agree_more, was_there, in_at, at_in}

module _ (e : Edit) (f : Map) (p q : Plan) (none : edit_new e ≡ []) (held : f (edit_uid e) ≡ Some p) (days : q.days ≡ p.days) (here : (d : ℕ) → edited e (on (edit_uid e) p d) ≡ on (edit_uid e) q d) (elsewhere : (o : Occurrence) → ¬ (edit_uid e ≡ o.uid) → edited e o ≡ o) where
  abbrev g : Map
  g = put (edit_uid e) (Some q) f

  there : g (edit_uid e) ≡ Some q
  there = put_same (edit_uid e) (Some q) f (edit_uid e) refl

  moves : Moves (edits e) f g
  moves o = (λ h. inr (forth h (decide (edit_uid e) h.uid)), λ m. elim m [ inl x ↦ absurd x | inr r ↦ back r (decide (edit_uid e) r.1.uid) ])
    where
      forth : (h : In g o) → (edit_uid e ≡ h.uid) ⊎ (¬ (edit_uid e ≡ h.uid)) → Was (edits e) f o
      forth h (inl s) =
          let t = in_at g o h (edit_uid e) q s there in
          (on (edit_uid e) p t.day, at_in f (on (edit_uid e) p t.day) (edit_uid e) p held (record { day = t.day; among = subst (Mem t.day) days t.among; is = refl }), t.is ∙ sym (here t.day))
      forth h (inr n) = (o, was_there g f o o h (sym (put_other (edit_uid e) (Some q) f h.uid n)) refl, sym (elsewhere o (λ s. n (s ∙ ap (λ x. x.uid) h.is))))

      back : (r : Was (edits e) f o) → (edit_uid e ≡ r.1.uid) ⊎ (¬ (edit_uid e ≡ r.1.uid)) → In g o
      back r (inl s) =
          let t = in_at f r.0 r.1 (edit_uid e) p s held in
          at_in g o (edit_uid e) q there (record { day = t.day; among = subst (Mem t.day) (sym days) t.among; is = r.2 ∙ ap (edited e) t.is ∙ here t.day })
      back r (inr n) =
          let h = r.1 in
          was_there f g o r.0 h (put_other (edit_uid e) (Some q) f h.uid n) (r.2 ∙ elsewhere r.0 (λ s. n (s ∙ ap (λ x. x.uid) h.is)))

  renames : Renames (edits e) f g
  renames w = (λ h. inr (forth h (decide (edit_uid e) w)), λ m. elim m [ inl x ↦ absurd (subst (Mem w) none x) | inr h ↦ back h (decide (edit_uid e) w) ])
    where
      forth : Holds g w → (edit_uid e ≡ w) ⊎ (¬ (edit_uid e ≡ w)) → Holds f w
      forth h (inl s) = (p, ap f (sym s) ∙ held)
      forth h (inr n) = (h.0, sym (put_other (edit_uid e) (Some q) f w n) ∙ h.1)

      back : Holds f w → (edit_uid e ≡ w) ⊎ (¬ (edit_uid e ≡ w)) → Holds g w
      back h (inl s) = (q, put_same (edit_uid e) (Some q) f w s)
      back h (inr n) = (h.0, put_other (edit_uid e) (Some q) f w n ∙ h.1)

  pub local : (items : List Item) → Agree items f → Agree (edits e ∷ items) (puts ((edit_uid e, Some q) ∷ []) f)
  local items a = agree_more (edits e) items f g moves renames a

-- a mark on a day
pub mark_here : (u : List ℕ) (d : ℕ) (m : Mark) (p : Plan) (x : ℕ) → cond (bytes_eq u u && eqb x d) (marked m (on u p x)) (on u p x) ≡ on u (marked_plan d m p) x
mark_here u d m p x = let s = own_uid u in grind (arith, nat_tests)

-- an edit that asks for its UID first leaves another as it is
pub asks_first : (u : List ℕ) (b : Bool) (o new : Occurrence) → ¬ (u ≡ o.uid) → cond (bytes_eq o.uid u && b) new o ≡ o
asks_first u b o new n = ap (λ t. cond (t && b) new o) (other_uid {u = o.uid} {w = u} (λ s. n (sym s)))
