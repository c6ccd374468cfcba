use Rattle.rule.proofs.Firsts.{picked_day}
use Rattle.rule.proofs.choice.Choice.next_day.Goals as goal

pub returns-in-Some : goal.returns-in-Some
returns-in-Some c =
    let s = c.args.self.now in
    picked_day s.pattern c.in-Some.p c.in-Some.is s.start c.args.from c.args.end c.next_picked.result s.begun s.parts c.requires c.next_picked.ensures.first
