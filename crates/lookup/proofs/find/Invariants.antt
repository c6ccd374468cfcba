use Rattle.std.proofs.Common.{ℕ, ◌-◌, ◌<◌, ◌≤◌, length, get_or}
use Rattle.lookup.proofs.find.Given as goal

abbrev pub invariant-loop-low : goal.invariant-loop-low
invariant-loop-low g l = (l.low ≤ l.high) × (l.high ≤ length l.records)
    × ((j : ℕ) (d : g.row.R.Denot) → j < l.low → g.R.Keyed.less (get_or l.records j d) l.key)
    × ((j : ℕ) (d : g.row.R.Denot) → l.high ≤ j → j < length l.records → g.R.Keyed.more (get_or l.records j d) l.key)

abbrev pub decreases-loop-low : goal.decreases-loop-low
decreases-loop-low g l = l.high - l.low
