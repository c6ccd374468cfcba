use Rattle.std.proofs.Common.{sym}
use Rattle.rule.proofs.Refusals.{to_test}
use Rattle.rule.proofs.making.checked.Goals as goal

pub invariant_of-choice : goal.invariant_of-choice
invariant_of-choice c =
    let t = to_test c.args.start c.args.recurrence.now c.pattern_of.result c.pattern_of.ensures (sym c.if-not-in_bounds.ensures) (sym c.if-conflicting.ensures) in
    record { begun = t.0; parts = t.1 }
