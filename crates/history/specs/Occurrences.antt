-- An occurrence with another mark, or with other things to carry.
use Rattle.std.specs.Prelude.{ℕ, List}
use Rattle.series.specs.Marks.{Mark}
use Rattle.series.specs.Plans.{Occurrence}

abbrev pub marked : Mark → Occurrence → Occurrence
marked m o = record { uid = o.uid; day = o.day; clock = o.clock; duration = o.duration; text = o.text; mark = m }

abbrev pub carrying : List ℕ → ℕ → ℕ → List ℕ → Occurrence → Occurrence
carrying u c n t o = record { uid = u; day = o.day; clock = c; duration = n; text = t; mark = o.mark }
