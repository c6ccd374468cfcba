use Rattle.rule.proofs.Bounds.{stop_low}
use Rattle.rule.proofs.Refusals.{fine}
use Rattle.rule.proofs.rules.Rule.made.Goals as goal

pub invariant_of-result : goal.invariant_of-result
invariant_of-result c =
    let f = fine c.args.choice.start c.args.recurrence.now c.args.choice.pattern c.until_of-until.result c.count_of-count.result c.requires.1 c.until_of-until.ensures c.count_of-count.ensures c.requires.0 in
    record { range = (c.end_of.ensures.low, stop_low c.until_of-until.result); begins = f.begins; few = f.few; ends = f.ends; settled = c.end_of.ensures.settled }
