use Rattle.rule.proofs.Weekdays.{ordinals}
use Rattle.rule.proofs.rule_source.RuleSource.first_at.Goals as goal

pub returns-clause-ordinals : goal.returns-clause-ordinals
returns-clause-ordinals c = ordinals
