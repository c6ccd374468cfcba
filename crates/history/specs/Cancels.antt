-- Cancel: the one occurrence of a UID on a day is cancelled.
use Rattle.std.specs.Prelude.{ℕ, cond, ◌&&◌, List, ◌==◌}
use Rattle.std.specs.Str.{bytes_eq}
use Rattle.series.specs.Marks.{cancelled}
use Rattle.series.specs.Plans.{Occurrence}
use Rattle.history.specs.Occurrences.{marked}

pub record Cancel : Type 0 where
  pub uid : List ℕ
  pub day : ℕ

abbrev pub cancelled_by : Cancel → Occurrence → Occurrence
cancelled_by e o = cond (bytes_eq o.uid e.uid && o.day == e.day) (marked cancelled o) o
