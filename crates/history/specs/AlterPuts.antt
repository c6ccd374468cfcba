-- Alter: what it puts. The plan is marked on the day.
use Rattle.std.specs.Prelude.{[], ◌∷◌, Some}
use Rattle.series.specs.Marks.{altered}
use Rattle.series.specs.Plans.{Plan}
use Rattle.history.specs.MarkedPlans.{marked_plan}
use Rattle.history.specs.Alters.{Alter}
use Rattle.history.specs.States.{Record}

abbrev pub altered_plan : Alter → Plan → Plan
altered_plan e p = marked_plan e.day (altered e.start e.text) p

abbrev pub alter_puts : Alter → Plan → Record
alter_puts e p = (e.uid, Some (altered_plan e p)) ∷ []
