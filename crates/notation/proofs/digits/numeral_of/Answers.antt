use Rattle.std.proofs.Common.{min, ◌∙◌, arith}
use Rattle.notation.proofs.Numbering.{numeral_fits}
use Rattle.notation.proofs.digits.numeral_of.Goals as goal

pub returns : goal.returns
returns c =
    let f = numeral_fits c.args.least (min c.args.most 9) c.args.octets.now (omega arith) (omega (arith, c.min.ensures)) (omega arith) in
    record { value = c.saturated.ensures ∙ f.0; bound = rw (c.saturated.ensures ∙ f.0) f.1 }
