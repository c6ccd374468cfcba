use Rattle.std.proofs.Common.{◌≡◌, ◌+◌, ◌<◌, take, arith}
use Rattle.rule.specs.Spans.{span}
use Rattle.rule.specs.Lists.{chooses}
use Rattle.rule.specs.Listing.{chosen_left}
use Rattle.rule.proofs.Settling.{settled_by}
use Rattle.rule.proofs.choice.Choice.settle.Goals as goal

pub returns-in_default-clause-value : goal.returns-in_default-clause-value
returns-in_default-clause-value c =
    let s = c.args.self.now in
    rw c.in_default.is at (settled_by chosen_left c.days_from.result c.nth.new.self (chooses s.pattern s.start) s.start c.args.stop c.args.count c.nth.result c.if-count-eq0.false c.days_from.ensures.left c.nth.ensures.ran)

abbrev ends : (c : goal.In-Some) → (c.in-Some.last < c.args.stop)
    × (take c.args.count (span (chooses c.args.self.now.pattern c.args.self.now.start) c.args.self.now.start c.args.stop) ≡ span (chooses c.args.self.now.pattern c.args.self.now.start) c.args.self.now.start (c.in-Some.last + 1))
ends c =
    let s = c.args.self.now in
    rw c.in-Some.is at (settled_by chosen_left c.days_from.result c.nth.new.self (chooses s.pattern s.start) s.start c.args.stop c.args.count c.nth.result c.if-count-eq0.false c.days_from.ensures.left c.nth.ensures.ran)

pub overflow_add-result : goal.overflow_add-result
overflow_add-result c = let l = (ends c).0 in let m = c.requires in omega (arith, l, m)

pub returns-clause-low : goal.returns-clause-low
returns-clause-low c = let l = (ends c).0 in omega (arith, l)

pub returns-clause-value : goal.returns-clause-value
returns-clause-value c = (ends c).1
