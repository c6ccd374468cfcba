use Rattle.std.proofs.Common.{min}
use Rattle.source.specs.Intervals.{Cut}
use Rattle.source.specs.Ticks.{placed}
use Rattle.source.proofs.intervals.Interval.places.Goals as goal

pub returns : goal.returns
returns c =
    let k : Cut c.args.self.now.start c.args.self.now.step c.args.self.now.count c.below.result (min c.args.day 109573) = rw c.min.ensures at c.below.ensures in
    placed c.args.self.now c.args.day c.below.result c.below-2.result c.below-2.ensures k
