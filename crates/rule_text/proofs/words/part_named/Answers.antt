use Rattle.std.proofs.Common.{rules, codes}
use Rattle.rule_text.specs.Words.{part_named}
use Rattle.rule_text.proofs.Keywords.{means}
use Rattle.rule_text.proofs.words.part_named.Goals as goal

pub returns-in-INTERVAL : goal.returns-in-INTERVAL
returns-in-INTERVAL c = means part_named c.args.octets.now (codes "INTERVAL") (search rules) (search rules)

pub returns-in-BYMONTH : goal.returns-in-BYMONTH
returns-in-BYMONTH c = means part_named c.args.octets.now (codes "BYMONTH") (search rules) (search rules)

pub returns-in-BYMONTHDAY : goal.returns-in-BYMONTHDAY
returns-in-BYMONTHDAY c = means part_named c.args.octets.now (codes "BYMONTHDAY") (search rules) (search rules)
