use Rattle.std.proofs.Common.{◌≡◌, ℕ, ◌<◌, ◌≤◌, length}
use Rattle.tournament.specs.Ranks.{Won, node}
use Rattle.tournament.proofs.matches.Tournament.play.Given as goal

abbrev pub invariant-loop-k : goal.invariant-loop-k
invariant-loop-k l = (l.self.nodes.ghost_name ≡ l.initial.self.nodes.ghost_name)
    × (l.self.count ≡ l.initial.self.count)
    × (length l.self.nodes.now ≡ length l.initial.self.nodes.now)
    × ((j : ℕ) → l.self.count ≤ j → node l.self.nodes.now j ≡ node l.initial.self.nodes.now j)
    × ((i : ℕ) → 1 ≤ i → l.k ≤ i → i < l.self.count → Won l.self.nodes.now i)
