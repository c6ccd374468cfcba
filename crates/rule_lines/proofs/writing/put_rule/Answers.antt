use Rattle.rule_lines.proofs.LinesMean.{lines_mean}
use Rattle.rule_lines.proofs.writing.put_rule.Goals as goal

pub returns-in-None-clause-lines : goal.returns-in-None-clause-lines
returns-in-None-clause-lines c = lines_mean

pub returns-in-Some-clause-lines : goal.returns-in-Some-clause-lines
returns-in-Some-clause-lines c = lines_mean
