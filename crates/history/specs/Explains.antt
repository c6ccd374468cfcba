-- When a history explains a state.
use Rattle.std.specs.Prelude.{◌≡◌, ℕ, ◌↔◌, List, [], ◌∷◌, length, Some, Option}
use Rattle.series.specs.Members.{Mem}
use Rattle.series.specs.Plans.{Plan, Occurrence, on}
use Rattle.history.specs.Items.{Edit, Item, read, known}
use Rattle.history.specs.Histories.{History}
use Rattle.history.specs.States.{Map, Record, at, puts, Draft, State}

-- the occurrence is one of those that the map stands for
pub record In (f : Map) (o : Occurrence) : Type 0 where
  pub uid : List ℕ
  pub plan : Plan
  pub day : ℕ
  pub held : f uid ≡ Some plan
  pub among : Mem day plan.days
  pub is : o ≡ on uid plan day

abbrev pub Holds : Map → List ℕ → Type 0
Holds f u = (p : Plan) × (f u ≡ Some p)

-- the items and the map have the same occurrences and the same UIDs
pub record Agree (items : List Item) (f : Map) : Type 0 where
  pub same : (o : Occurrence) → Mem o (read items) ↔ In f o
  pub uids : (u : List ℕ) → Mem u (known items) ↔ Holds f u

-- they agree now, and, the newest undo record taken back, with the items less the newest, and so on down the undo log
abbrev pub Stands : List Item → Map → List Record → Type 0
Stands items f [] = Agree items f
Stands [] f (r ∷ undo) = ⊥
Stands (i ∷ items) f (r ∷ undo) = Agree (i ∷ items) f × Stands items (puts r f) undo

-- a checked draft has the edit that is noted under its number
abbrev pub Noted : (ℕ → Option Edit) → Draft → Type 0
Noted notes d = (e : Edit) → d.edit ≡ Some e → notes d.number ≡ Some e

pub record Explains (h : History) (st : State) : Type 0 where
  pub stands : Stands h.items (at st.plans) st.undo
  pub undos : h.undos ≡ length st.undo
  pub drafts : (d : Draft) → Mem d st.drafts → Noted h.notes d
