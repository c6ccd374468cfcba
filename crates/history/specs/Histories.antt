-- A history: what is in force, from the calls and their answers alone.
use Rattle.std.specs.Prelude.{ℕ, suc, pred, min, cond, List, [], ◌∷◌, Some, None, Option, ◌==◌}
use Rattle.series.specs.Plans.{Plan}
use Rattle.history.specs.Items.{Edit, Item, enters, edits, named}

pub data Call : Type 0 where
  enter : (uid : List ℕ) → Plan → Call
  «open» : (uid : List ℕ) → Call
  check : (number : ℕ) → Edit → Call
  commit : (number : ℕ) → Call
  revert : (number : ℕ) → Call
  undo : Call
  agenda : (from end : ℕ) → Call
  write : (uid : List ℕ) → Call

pub data Answer : Type 0 where
  done : Answer
  opened : (number : ℕ) → Answer
  printed : (lines : ℕ) → (octets : List ℕ) → Answer
  refused : (number : ℕ) → Answer

-- the items in force, newest first; how many undos are remembered; the edit noted under a draft's number
pub record History : Type 0 where
  pub items : List Item
  pub undos : ℕ
  pub notes : ℕ → Option Edit

abbrev pub blank : History
blank = record { items = []; undos = 0; notes = λ n. None }

-- how many changes an undo log remembers
abbrev pub remembered : ℕ
remembered = 16

abbrev pub added : Item → History → History
added i h = record { items = i ∷ h.items; undos = min remembered (suc h.undos); notes = h.notes }

abbrev pub added_edit : Option Edit → History → History
added_edit None h = h
added_edit (Some e) h = added (edits e) h

abbrev pub less_newest : List Item → List Item
less_newest [] = []
less_newest (i ∷ items) = items

abbrev pub noted : ℕ → Edit → History → History
noted n e h = record { items = h.items; undos = h.undos; notes = λ m. cond (m == n) (Some e) (h.notes m) }

-- what an accepted call does to a history
abbrev pub accepted : History → Call → History
accepted h (enter u p) = added (enters u p) h
accepted h («open» u) = h
accepted h (check n e) = noted n e h
accepted h (commit n) = added_edit (h.notes n) h
accepted h (revert n) = h
accepted h undo = record { items = less_newest h.items; undos = pred h.undos; notes = h.notes }
accepted h (agenda from end) = h
accepted h (write u) = h

-- what a call and its answer do to it; a refused call does nothing
abbrev pub fed : History → Call → Answer → History
fed h c done = accepted h c
fed h c (opened n) = accepted h c
fed h c (printed n octets) = accepted h c
fed h c (refused n) = h

abbrev pub named_edit : Option Edit → List (List ℕ)
named_edit None = []
named_edit (Some e) = named (edits e)

abbrev pub named_newest : List Item → List (List ℕ)
named_newest [] = []
named_newest (i ∷ items) = named i

-- the UIDs that an accepted call touches: those named by what it adds or takes away
abbrev pub accepted_touches : History → Call → List (List ℕ)
accepted_touches h (enter u p) = u ∷ []
accepted_touches h («open» u) = []
accepted_touches h (check n e) = []
accepted_touches h (commit n) = named_edit (h.notes n)
accepted_touches h (revert n) = []
accepted_touches h undo = named_newest h.items
accepted_touches h (agenda from end) = []
accepted_touches h (write u) = []

abbrev pub touches : History → Call → Answer → List (List ℕ)
touches h c done = accepted_touches h c
touches h c (opened n) = accepted_touches h c
touches h c (printed n octets) = accepted_touches h c
touches h c (refused n) = []
