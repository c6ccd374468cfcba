-- Where a series stands in the merge.
use Rattle.std.specs.Prelude.{◌≡◌, ℕ, ◌+◌, ◌<◌, ◌≤◌, List}
use Rattle.tournament.specs.declared.nodes.Node.{Node}
use Rattle.tournament.specs.Ranks.{node}
use Rattle.upcoming.specs.Least.{rank}

-- x is the least of P from (s, d) on and before the end; or it starts at the end, and there is none
pub record Cursor (P : ℕ → ℕ → Type 0) (s d end p : ℕ) (x : Node) : Type 0 where
  pub seat : x.place ≡ p
  pub small : x.day < 4294967296
  pub real : x.start < end → P x.start x.day × (rank s d ≤ rank x.start x.day)
  pub reached : s < end → rank s d ≤ rank x.start x.day
  pub least : (z w : ℕ) → P z w → rank s d ≤ rank z w → z < end → rank x.start x.day ≤ rank z w

-- the leaves of the first k places stand so
abbrev pub Stand : (ℕ → ℕ → ℕ → Type 0) → ℕ → ℕ → ℕ → ℕ → List Node → Type 0
Stand P from end n k t = (p : ℕ) → p < k → Cursor (P p) from 0 end p (node t (n + p))
