use Rattle.std.proofs.Common.{arith}
use Rattle.pattern.proofs.Ahead.{jump}
use Rattle.pattern.proofs.started.Started.next_active.Goals as goal

pub returns : goal.returns
returns c =
    let p = c.args.self.pattern.now in
    let s = c.stride-next.ensures in
    jump p c.args.self.start.number c.args.day.number c.period_of-here.result c.args.self.phase c.stride-next.result
    c.args.day.known c.period_of-here.ensures c.args.self.phased s.passed (omega (arith, s.range)) s.value c.opening_of.result c.opening_of.ensures
