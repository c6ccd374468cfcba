-- The items in force, the newest first, and the occurrences that reading them in order makes.
use Rattle.std.specs.Prelude.{ℕ, List, [], ◌∷◌, ◌++◌, map}
use Rattle.series.specs.Plans.{Plan, Occurrence, occurrences_of}
use Rattle.history.specs.Cancels.{Cancel, cancelled_by}
use Rattle.history.specs.Alters.{Alter, altered_by}
use Rattle.history.specs.Wholes.{Whole, whole_by}
use Rattle.history.specs.Splits.{Split, split_by}

pub data Edit : Type 0 where
  cancel : Cancel → Edit
  alter : Alter → Edit
  whole : Whole → Edit
  split : Split → Edit

-- what an edit makes of one occurrence
abbrev pub edited : Edit → Occurrence → Occurrence
edited (cancel e) o = cancelled_by e o
edited (alter e) o = altered_by e o
edited (whole e) o = whole_by e o
edited (split e) o = split_by e o

-- the UID that an edit is of
abbrev pub edit_uid : Edit → List ℕ
edit_uid (cancel e) = e.uid
edit_uid (alter e) = e.uid
edit_uid (whole e) = e.uid
edit_uid (split e) = e.uid

-- the UIDs that it brings in
abbrev pub edit_new : Edit → List (List ℕ)
edit_new (cancel e) = []
edit_new (alter e) = []
edit_new (whole e) = []
edit_new (split e) = e.new ∷ []

pub data Item : Type 0 where
  enters : List ℕ → Plan → Item
  edits : Edit → Item

-- what an item makes of one occurrence that was there
abbrev pub touched : Item → Occurrence → Occurrence
touched (enters u p) o = o
touched (edits e) o = edited e o

-- what it makes anew: an enter one occurrence for each day
abbrev pub fresh : Item → List Occurrence
fresh (enters u p) = occurrences_of u p
fresh (edits e) = []

-- the UIDs that it brings in
abbrev pub brought : Item → List (List ℕ)
brought (enters u p) = u ∷ []
brought (edits e) = edit_new e

-- every UID that it names
abbrev pub named : Item → List (List ℕ)
named (enters u p) = u ∷ []
named (edits e) = edit_uid e ∷ edit_new e

-- the occurrences that the items make, read from the oldest on
abbrev pub read : List Item → List Occurrence
read [] = []
read (i ∷ items) = fresh i ++ map (touched i) (read items)

-- the UIDs that they brought in
abbrev pub known : List Item → List (List ℕ)
known [] = []
known (i ∷ items) = brought i ++ known items
