-- The theorems of the model: the ordered list of plans is its map, and what is put is taken back.
use Rattle.std.specs.Prelude.{◌≡◌, ℕ, ◌↔◌, List, Option}
use Rattle.series.specs.Members.{Mem}
use Rattle.series.specs.Plans.{Plan, Occurrence}
use Rattle.history.specs.States.{Plans, Ascends, Map, at, put, puts, Record, priors, placing, placings, occurrences}
use Rattle.history.specs.Explains.{In}

-- to place in the list is to put in the map
abbrev pub PlacedIsPut : Type 0
PlacedIsPut = (u : List ℕ) (v : Option Plan) (ps : Plans) → Ascends ps → at (placing u v ps) ≡ put u v (at ps)

abbrev pub PlacedIsPuts : Type 0
PlacedIsPuts = (es : Record) (ps : Plans) → Ascends ps → at (placings es ps) ≡ puts es (at ps)

-- and keeps the list ascending
abbrev pub StaysAscending : Type 0
StaysAscending = (es : Record) (ps : Plans) → Ascends ps → Ascends (placings es ps)

-- the list and the map have the same occurrences
abbrev pub OccurrencesOfMap : Type 0
OccurrencesOfMap = (ps : Plans) → Ascends ps → (o : Occurrence) → Mem o (occurrences ps) ↔ In (at ps) o

-- what any record put, the record of what stood there takes back
abbrev pub TakenBack : Type 0
TakenBack = (es : Record) (f : Map) → puts (priors es f) (puts es f) ≡ f
