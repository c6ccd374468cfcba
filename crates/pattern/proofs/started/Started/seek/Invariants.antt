use Rattle.std.proofs.Common.{◌-◌, ◌≤◌}
use Rattle.pattern.specs.Picks.{picks}
use Rattle.pattern.specs.First.{NoneIn}
use Rattle.pattern.proofs.started.Started.seek.Given as goal

abbrev pub invariant-loop-day : goal.invariant-loop-day
invariant-loop-day l = (l.from ≤ l.day) × NoneIn (picks l.self.pattern.now l.self.start.number) l.from l.day

abbrev pub decreases-loop-day : goal.decreases-loop-day
decreases-loop-day l = l.end - l.day
