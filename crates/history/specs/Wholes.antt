-- Whole: all occurrences of a UID get another clock, duration and text to carry.
use Rattle.std.specs.Prelude.{ℕ, cond, List}
use Rattle.std.specs.Str.{bytes_eq}
use Rattle.series.specs.Plans.{Occurrence}
use Rattle.history.specs.Occurrences.{carrying}

pub record Whole : Type 0 where
  pub uid : List ℕ
  pub clock : ℕ
  pub duration : ℕ
  pub text : List ℕ

abbrev pub whole_by : Whole → Occurrence → Occurrence
whole_by e o = cond (bytes_eq o.uid e.uid) (carrying o.uid e.clock e.duration e.text o) o
