-- What the series at a place of a store shows.
use Rattle.std.specs.Prelude.{ℕ, List, [], Some, None, Option}
use Rattle.series.specs.Marks.{plain}
use Rattle.series.specs.Plans.{Occurrence, on, plan_of}
use Rattle.store.specs.declared.pairs.Pair.{Pair}
use Rattle.store.specs.Pairs.{key, pair_at}
use Rattle.tournament.specs.declared.nodes.Node.{Node}
use Rattle.upcoming.specs.Shown.{Shows}

module _ {S : Type 0} (days : S → List ℕ) where
  abbrev pub ShowsBy : Option (Pair S) → ℕ → ℕ → Type 0
  ShowsBy None s d = ⊥
  ShowsBy (Some q) s d = Shows (plan_of days q.series) s d

  -- the series at a place has a live occurrence of day d that starts at s
  abbrev pub ShowsAt : List (Pair S) → ℕ → ℕ → ℕ → Type 0
  ShowsAt ps place s d = ShowsBy (pair_at ps place) s d

  abbrev pub occurrence_by : Option (Pair S) → ℕ → Occurrence
  occurrence_by None d = record { uid = []; day = d; clock = 0; duration = 0; text = []; mark = plain }
  occurrence_by (Some q) d = on (key q) (plan_of days q.series) d

  -- the occurrence that a node stands for
  abbrev pub named : List (Pair S) → Node → Occurrence
  named ps x = occurrence_by (pair_at ps x.place) x.day
