use Rattle.std.proofs.Common.{take}
use Rattle.series.specs.Plans.{plan_of}
use Rattle.upcoming.specs.Kinds.{Plain}
use Rattle.upcoming.specs.Least.{Next}
use Rattle.upcoming.proofs.Turns.{Seen}
use Rattle.upcoming.proofs.next.next_in.Given as goal

abbrev pub invariant-loop-item : goal.invariant-loop-item
invariant-loop-item g l = Next (Seen (Plain (plan_of g.S.Source.days l.series)) (g.S.Source.days l.series.repeats.source) (take l.item-index l.item-items)) l.from.start l.from.day l.end l.best
