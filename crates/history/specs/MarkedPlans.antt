-- A plan with another mark on a day.
use Rattle.std.specs.Prelude.{ℕ, cond, ◌==◌}
use Rattle.series.specs.Marks.{Mark}
use Rattle.series.specs.Plans.{Plan}

abbrev pub marked_plan : ℕ → Mark → Plan → Plan
marked_plan d m p = record { days = p.days; clock = p.clock; duration = p.duration; text = p.text; marks = λ x. cond (d == x) m (p.marks x) }
