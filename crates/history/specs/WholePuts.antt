-- Whole: what it puts. The days and their marks are kept.
use Rattle.std.specs.Prelude.{[], ◌∷◌, Some}
use Rattle.series.specs.Plans.{Plan}
use Rattle.history.specs.Wholes.{Whole}
use Rattle.history.specs.States.{Record}

abbrev pub whole_plan : Whole → Plan → Plan
whole_plan e p = record { days = p.days; clock = e.clock; duration = e.duration; text = e.text; marks = p.marks }

abbrev pub whole_puts : Whole → Plan → Record
whole_puts e p = (e.uid, Some (whole_plan e p)) ∷ []
