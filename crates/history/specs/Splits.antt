-- Split: the occurrences of a UID from a day on get a new UID, clock, duration and text.
use Rattle.std.specs.Prelude.{ℕ, cond, ◌&&◌, List, nat_le}
use Rattle.std.specs.Str.{bytes_eq}
use Rattle.series.specs.Plans.{Occurrence}
use Rattle.history.specs.Occurrences.{carrying}

pub record Split : Type 0 where
  pub uid : List ℕ
  pub day : ℕ
  pub new : List ℕ
  pub clock : ℕ
  pub duration : ℕ
  pub text : List ℕ

abbrev pub split_by : Split → Occurrence → Occurrence
split_by e o = cond (bytes_eq o.uid e.uid && nat_le e.day o.day) (carrying e.new e.clock e.duration e.text o) o
