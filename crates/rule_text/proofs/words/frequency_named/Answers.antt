use Rattle.std.proofs.Common.{rules, codes}
use Rattle.rule_text.specs.Words.{frequency_named}
use Rattle.rule_text.proofs.Keywords.{means}
use Rattle.rule_text.proofs.words.frequency_named.Goals as goal

pub returns-in-WEEKLY : goal.returns-in-WEEKLY
returns-in-WEEKLY c = means frequency_named c.args.octets.now (codes "WEEKLY") (search rules) (search rules)

pub returns-in-YEARLY : goal.returns-in-YEARLY
returns-in-YEARLY c = means frequency_named c.args.octets.now (codes "YEARLY") (search rules) (search rules)

pub returns-in-MONTHLY : goal.returns-in-MONTHLY
returns-in-MONTHLY c = means frequency_named c.args.octets.now (codes "MONTHLY") (search rules) (search rules)
