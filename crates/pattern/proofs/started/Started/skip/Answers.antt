use Rattle.std.proofs.Common.{◌+◌, refl}
use Rattle.pattern.specs.Picks.{picked}
use Rattle.pattern.proofs.Ahead.{step_on}
use Rattle.pattern.proofs.started.Started.skip.Goals as goal

pub returns : goal.returns
returns c =
    let p = c.args.self.pattern.now in
    rw c.then_some.ensures (step_on (picked p c.args.self.start.number) c.args.day.number (c.args.day.number + 1) c.is_picked.result c.is_picked.ensures refl)
