-- Whole: the plan with other things to carry.
use Rattle.std.proofs.Common.{◌≡◌, cond, List, ◌∷◌, Some, sym, refl, ap}
use Rattle.series.specs.Plans.{Plan, on}
use Rattle.history.specs.Occurrences.{carrying}
use Rattle.history.specs.Wholes.{Whole}
use Rattle.history.specs.WholePuts.{whole_plan, whole_puts}
use Rattle.history.specs.Items.{Item, whole, edits}
use Rattle.history.specs.States.{Map, puts}
use Rattle.history.specs.Explains.{Agree}
use Rattle.history.proofs.Maps.{own_uid, other_uid}
use Rattle.history.proofs.InPlace.{local}

pub whole_step : (e : Whole) (f : Map) (p : Plan) → f e.uid ≡ Some p → (items : List Item) → Agree items f → Agree (edits (whole e) ∷ items) (puts (whole_puts e p) f)
whole_step e f p held = local (whole e) f p (whole_plan e p) refl held refl
    (λ d. ap (λ t. cond t (on e.uid (whole_plan e p) d) (on e.uid p d)) (own_uid e.uid))
    (λ o n. ap (λ t. cond t (carrying o.uid e.clock e.duration e.text o) o) (other_uid {u = o.uid} {w = e.uid} (λ s. n (sym s))))
