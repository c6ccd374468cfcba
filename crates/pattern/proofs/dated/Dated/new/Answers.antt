use Rattle.std.proofs.Common.{sym, ◌∙◌, arith}
use Rattle.pattern.proofs.Openings.{date_here}
use Rattle.pattern.proofs.dated.Dated.new.Goals as goal

pub invariant_of-result : goal.invariant_of-result
invariant_of-result c = record { dated = date_here c.args.day.number c.unwrap.result c.args.day.known (sym (c.date_of.ensures.there (omega arith)) ∙ c.unwrap.ensures) }
