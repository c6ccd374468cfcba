use Rattle.std.proofs.Common.{Option, subst}
use Rattle.store.specs.declared.pairs.Pair.{Pair}
use Rattle.upcoming.specs.Least.{Next}
use Rattle.merge.specs.Places.{ShowsBy}
use Rattle.merge.proofs.seats.next_at.Goals as goal

pub returns : goal.returns
returns g c = subst (λ (o : Option (Pair _)). Next (ShowsBy g.St.Source.Source.days o) c.args.from.start c.args.from.day c.args.end c.next_in.result) c.in_ok-pair.ensures c.next_in.ensures
