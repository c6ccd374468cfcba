-- What an item and its puts make of the map's occurrences and UIDs, and what it makes of those of the items.
use Rattle.std.proofs.Common.{◌≡◌, ℕ, ◌⊎◌, ◌↔◌, List, ◌∷◌, ◌++◌, map, Some, sym, ◌∙◌, subst, inl, inr}
use Rattle.series.specs.Members.{Mem}
use Rattle.series.specs.Plans.{Plan, Occurrence, on}
use Rattle.history.specs.Items.{Item, touched, fresh, brought, read, known}
use Rattle.history.specs.States.{Map}
use Rattle.history.specs.Explains.{In, Holds, Agree}
use Rattle.history.proofs.Members.{mem_append, mem_append_left, mem_append_right, mem_map, map_mem}

abbrev pub Was : Item → Map → Occurrence → Type 0
Was i f o = (p : Occurrence) × In f p × (o ≡ touched i p)

-- what the item does to the map's occurrences
abbrev pub Moves : Item → Map → Map → Type 0
Moves i f g = (o : Occurrence) → In g o ↔ (Mem o (fresh i) ⊎ Was i f o)

-- and to its UIDs
abbrev pub Renames : Item → Map → Map → Type 0
Renames i f g = (w : List ℕ) → Holds g w ↔ (Mem w (brought i) ⊎ Holds f w)

pub agree_more : (i : Item) (items : List Item) (f g : Map) → Moves i f g → Renames i f g → Agree items f → Agree (i ∷ items) g
agree_more i items f g moves renames a = record { same = λ o. (there o, back o); uids = λ w. (name w, unname w) }
  where
    there : (o : Occurrence) → Mem o (fresh i ++ map (touched i) (read items)) → In g o
    there o m = (moves o).1 (elim (mem_append o (fresh i) (map (touched i) (read items)) m) [
      | inl h ↦ inl h
      | inr h ↦ let r = map_mem (touched i) (read items) h in inr (r.0, (a.same r.0).0 r.1, r.2)
    ])

    back : (o : Occurrence) → In g o → Mem o (fresh i ++ map (touched i) (read items))
    back o h = elim ((moves o).0 h) [
      | inl m ↦ mem_append_left o (fresh i) (map (touched i) (read items)) m
      | inr r ↦ mem_append_right o (fresh i) (map (touched i) (read items)) (mem_map (touched i) o (read items) ((a.same r.0).1 r.1) r.2)
    ]

    name : (w : List ℕ) → Mem w (brought i ++ known items) → Holds g w
    name w m = (renames w).1 (elim (mem_append w (brought i) (known items) m) [ inl h ↦ inl h | inr h ↦ inr ((a.uids w).0 h) ])

    unname : (w : List ℕ) → Holds g w → Mem w (brought i ++ known items)
    unname w h = elim ((renames w).0 h) [ inl m ↦ mem_append_left w (brought i) (known items) m | inr k ↦ mem_append_right w (brought i) (known items) ((a.uids w).1 k) ]

-- where two maps have the same at the UID of an occurrence of the one, the other has it too
pub was_there : (f g : Map) (o p : Occurrence) (h : In f p) → g h.uid ≡ f h.uid → o ≡ p → In g o
was_there f g o p h e q = record { uid = h.uid; plan = h.plan; day = h.day; held = e ∙ h.held; among = h.among; is = q ∙ h.is }

-- an occurrence of a known plan
pub record There (o : Occurrence) (u : List ℕ) (p : Plan) : Type 0 where
  pub day : ℕ
  pub among : Mem day p.days
  pub is : o ≡ on u p day

pub in_at : (f : Map) (o : Occurrence) (h : In f o) (u : List ℕ) (p : Plan) → u ≡ h.uid → f u ≡ Some p → There o u p
in_at f o h u p q e =
    let same : h.plan ≡ p = cc in
    record { day = h.day; among = subst (λ (s : Plan). Mem h.day s.days) same h.among; is = h.is ∙ (λ j. on (sym q j) (same j) h.day) }

pub at_in : (f : Map) (o : Occurrence) (u : List ℕ) (p : Plan) → f u ≡ Some p → There o u p → In f o
at_in f o u p e t = record { uid = u; plan = p; day = t.day; held = e; among = t.among; is = t.is }
