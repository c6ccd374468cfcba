-- Every edit: the items with it agree with the plans that it puts.
use Rattle.std.proofs.Common.{◌≡◌, List, ◌∷◌, Some}
use Rattle.series.specs.Plans.{Plan}
use Rattle.history.specs.Items.{Item, Edit, cancel, alter, whole, split, edits, edit_uid}
use Rattle.history.specs.EditPuts.{edit_puts, NewFree}
use Rattle.history.specs.States.{Map, puts}
use Rattle.history.specs.Explains.{Agree}
use Rattle.history.proofs.CancelSteps.{cancel_step}
use Rattle.history.proofs.AlterSteps.{alter_step}
use Rattle.history.proofs.WholeSteps.{whole_step}
use Rattle.history.proofs.SplitSteps.{split_step}

pub edit_step : (e : Edit) (f : Map) (p : Plan) → f (edit_uid e) ≡ Some p → NewFree e f → (items : List Item) → Agree items f → Agree (edits e ∷ items) (puts (edit_puts e p) f)
edit_step (cancel e) f p held free = cancel_step e f p held
edit_step (alter e) f p held free = alter_step e f p held
edit_step (whole e) f p held free = whole_step e f p held
edit_step (split e) f p held free = split_step e f p held free.0
