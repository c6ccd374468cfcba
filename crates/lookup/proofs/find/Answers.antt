use Rattle.std.proofs.Common.{arith}
use Rattle.lookup.proofs.Sides.{lower, upper}
use Rattle.lookup.proofs.find.Goals as goal

pub loop-low-preserved-in-Less : goal.loop-low-preserved-in-Less
loop-low-preserved-in-Less g c = (
  omega arith,
  omega arith,
  lower g.R.Keyed.before c.args.records.now c.requires _ c.index-records-mid.result c.args.key.now (omega arith) c.index-records-mid.is g.R.Keyed.less g.met.R.Keyed.down c.in-Less.ensures,
  c.loop-low.invariant.3,
)

pub loop-low-preserved : goal.loop-low-preserved
loop-low-preserved g c = (
  omega arith,
  omega arith,
  c.loop-low.invariant.2,
  upper g.R.Keyed.before c.args.records.now c.requires _ c.index-records-mid.result c.args.key.now (omega arith) c.index-records-mid.is g.R.Keyed.more g.met.R.Keyed.up c.in-Greater.ensures,
)
