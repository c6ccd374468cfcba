-- Alter: the plan marked on the day.
use Rattle.std.proofs.Common.{◌≡◌, eqb, List, ◌∷◌, Some, refl}
use Rattle.series.specs.Marks.{altered}
use Rattle.series.specs.Plans.{Plan}
use Rattle.history.specs.Occurrences.{marked}
use Rattle.history.specs.Alters.{Alter}
use Rattle.history.specs.AlterPuts.{altered_plan, alter_puts}
use Rattle.history.specs.Items.{Item, alter, edits}
use Rattle.history.specs.States.{Map, puts}
use Rattle.history.specs.Explains.{Agree}
use Rattle.history.proofs.InPlace.{local, mark_here, asks_first}

pub alter_step : (e : Alter) (f : Map) (p : Plan) → f e.uid ≡ Some p → (items : List Item) → Agree items f → Agree (edits (alter e) ∷ items) (puts (alter_puts e p) f)
alter_step e f p held = local (alter e) f p (altered_plan e p) refl held refl (mark_here e.uid e.day (altered e.start e.text) p) (λ o n. asks_first e.uid (eqb o.day e.day) o (marked (altered e.start e.text) o) n)
