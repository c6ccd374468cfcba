-- Cancel: what it puts. The plan is marked on the day.
use Rattle.std.specs.Prelude.{[], ◌∷◌, Some}
use Rattle.series.specs.Marks.{cancelled}
use Rattle.series.specs.Plans.{Plan}
use Rattle.history.specs.MarkedPlans.{marked_plan}
use Rattle.history.specs.Cancels.{Cancel}
use Rattle.history.specs.States.{Record}

abbrev pub cancelled_plan : Cancel → Plan → Plan
cancelled_plan e p = marked_plan e.day cancelled p

abbrev pub cancel_puts : Cancel → Plan → Record
cancel_puts e p = (e.uid, Some (cancelled_plan e p)) ∷ []
