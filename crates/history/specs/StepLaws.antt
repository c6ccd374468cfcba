-- The theorems of the model: what explains a state at first, and after each call.
use Rattle.std.specs.Prelude.{◌≡◌, ℕ, ◌↔◌, List, [], ◌∷◌, take, Some, None}
use Rattle.series.specs.Plans.{Plan, Occurrence}
use Rattle.history.specs.Items.{Edit, Item, edit_uid, read}
use Rattle.history.specs.Histories.{History, blank, added, noted, fed, enter, commit, undo, done, remembered}
use Rattle.history.specs.Agendas.{IsAgenda}
use Rattle.history.specs.States.{Ascends, Record, at, put, puts, occurrences, State}
use Rattle.history.specs.EditPuts.{edit_puts, NewFree}
use Rattle.history.specs.Explains.{Agree, Explains}
use Rattle.history.specs.Changes.{Changed, Undone, Redrafted, Checked}

-- the blank history explains a state that holds nothing
abbrev pub LawOfBlank : Type 0
LawOfBlank = (st : State) → st.plans ≡ [] → st.undo ≡ [] → st.drafts ≡ [] → Explains blank st

-- a list of the plans' occurrences is the agenda where it is the history's
abbrev pub LawOfAgenda : Type 0
LawOfAgenda = (h : History) (st : State) → Explains h st → Ascends st.plans → (from end : ℕ) (l : List Occurrence) → IsAgenda (occurrences st.plans) from end l ↔ IsAgenda (read h.items) from end l

-- where the items agree with the plans, they do with one item more and the plans that it puts
abbrev pub Agrees : Item → Record → History → State → Type 0
Agrees i es h st = Agree h.items (at st.plans) → Agree (i ∷ h.items) (puts es (at st.plans))

-- a change is explained by the history with its item added
abbrev pub LawOfChange : Type 0
LawOfChange = (i : Item) (es : Record) (h : History) (old new : State) → Agrees i es h old → Explains h old → Changed es old new → Explains (added i h) new

-- an enter puts a plan at a UID that has none
abbrev pub LawOfEnter : Type 0
LawOfEnter = (h : History) (old new : State) (u : List ℕ) (p : Plan) → Explains h old → at old.plans u ≡ None → ((w : List ℕ) → at new.plans w ≡ put u (Some p) (at old.plans) w) → new.undo ≡ take remembered (((u, None) ∷ []) ∷ old.undo) → new.drafts ≡ old.drafts → Explains (fed h (enter u p) done) new

-- a commit puts what the edit that is noted makes of the plan of its UID
abbrev pub LawOfCommit : Type 0
LawOfCommit = (h : History) (old new : State) (n : ℕ) (e : Edit) (p : Plan) → Explains h old → h.notes n ≡ Some e → at old.plans (edit_uid e) ≡ Some p → NewFree e (at old.plans) → Changed (edit_puts e p) old new → Explains (fed h (commit n) done) new

-- an undo is explained by the history less the newest item
abbrev pub LawOfUndo : Type 0
LawOfUndo = (r : Record) (h : History) (old new : State) → Explains h old → Undone r old new → Explains (fed h undo done) new

-- to open or to revert drafts asks for nothing new, and a check for its edit noted
abbrev pub LawOfDrafts : Type 0
LawOfDrafts = (h : History) (old new : State) → Explains h old → Redrafted old new → Explains h new

abbrev pub LawOfCheck : Type 0
LawOfCheck = (h : History) (old new : State) (n : ℕ) (e : Edit) → Explains h old → Checked n e old new → Explains (noted n e h) new
