use Rattle.source.proofs.Walking.{few_since}
use Rattle.std.proofs.Common.{refl}
use Rattle.source.proofs.walks.days_from.Goals as goal

pub returns : goal.returns
returns g c =
    let s = c.args.source.now in
    record { left = refl; few = few_since c.args.day (g.S.Source.days s) (g.met.S.Source.ascending s) (g.met.S.Source.bounded s) }
