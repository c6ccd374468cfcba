use Rattle.std.proofs.Common.{◌≡◌, ℕ, ◌+◌, ◌<◌}
use Rattle.tournament.specs.Ranks.{node}
use Rattle.merge.specs.Cursors.{Cursor}
use Rattle.merge.specs.Places.{ShowsAt}
use Rattle.merge.proofs.seats.seat.Given as goal

abbrev pub invariant-loop-place : goal.invariant-loop-place
invariant-loop-place g l = (l.tournament.nodes.ghost_name ≡ l.initial.tournament.nodes.ghost_name)
    × (l.tournament.count ≡ l.initial.tournament.count)
    × ((p : ℕ) → p < l.place → Cursor (ShowsAt g.St.Source.Source.days (g.St.Store.pairs l.store) p) l.window.from 0 l.window.end p (node l.tournament.nodes.now (l.tournament.count + p)))
