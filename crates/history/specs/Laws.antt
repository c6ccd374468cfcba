-- The theorems of the model: the agenda.
use Rattle.std.specs.Prelude.{◌≡◌, Bool, ◌↔◌, List}
use Rattle.series.specs.Members.{Mem}
use Rattle.series.specs.Plans.{Occurrence}
use Rattle.history.specs.Agendas.{Lists}

-- what is chosen pins one list
abbrev pub OneList : Type 0
OneList = (chosen : Occurrence → Bool) (os l m : List Occurrence) → Lists chosen os l → Lists chosen os m → l ≡ m

-- the list depends on the members of the occurrences alone, not on their order
abbrev pub SameMembers : Type 0
SameMembers = (chosen : Occurrence → Bool) (os ps l : List Occurrence) → ((o : Occurrence) → Mem o os ↔ Mem o ps) → Lists chosen os l → Lists chosen ps l
