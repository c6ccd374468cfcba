-- Alter: the one occurrence of a UID on a day gets a start and a text of its own.
use Rattle.std.specs.Prelude.{ℕ, cond, ◌&&◌, List, ◌==◌}
use Rattle.std.specs.Str.{bytes_eq}
use Rattle.series.specs.Marks.{altered}
use Rattle.series.specs.Plans.{Occurrence}
use Rattle.history.specs.Occurrences.{marked}

pub record Alter : Type 0 where
  pub uid : List ℕ
  pub day : ℕ
  pub start : ℕ
  pub text : List ℕ

abbrev pub altered_by : Alter → Occurrence → Occurrence
altered_by e o = cond (bytes_eq o.uid e.uid && o.day == e.day) (marked (altered e.start e.text) o) o
