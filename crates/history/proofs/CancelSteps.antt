-- Cancel: the plan marked on the day.
use Rattle.std.proofs.Common.{◌≡◌, eqb, List, ◌∷◌, Some, refl}
use Rattle.series.specs.Marks.{cancelled}
use Rattle.series.specs.Plans.{Plan}
use Rattle.history.specs.Occurrences.{marked}
use Rattle.history.specs.Cancels.{Cancel}
use Rattle.history.specs.CancelPuts.{cancelled_plan, cancel_puts}
use Rattle.history.specs.Items.{Item, cancel, edits}
use Rattle.history.specs.States.{Map, puts}
use Rattle.history.specs.Explains.{Agree}
use Rattle.history.proofs.InPlace.{local, mark_here, asks_first}

pub cancel_step : (e : Cancel) (f : Map) (p : Plan) → f e.uid ≡ Some p → (items : List Item) → Agree items f → Agree (edits (cancel e) ∷ items) (puts (cancel_puts e p) f)
cancel_step e f p held = local (cancel e) f p (cancelled_plan e p) refl held refl (mark_here e.uid e.day cancelled p) (λ o n. asks_first e.uid (eqb o.day e.day) o (marked cancelled o) n)
