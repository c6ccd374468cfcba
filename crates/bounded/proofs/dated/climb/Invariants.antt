use Rattle.std.proofs.Common.{◌≡◌, drop}
use Rattle.bounded.specs.Climbing.{climbing}
use Rattle.bounded.proofs.dated.climb.Given as goal

abbrev pub invariant-loop-item : goal.invariant-loop-item
invariant-loop-item g l =
    climbing g.T.Dated.day_of g.T.Dated.carries l.least (drop l.item-index l.items) ≡ climbing g.T.Dated.day_of g.T.Dated.carries 0 l.items
