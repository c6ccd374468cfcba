use Rattle.rule_lines.proofs.ReadsBack.{reads_back}
use Rattle.rule_lines.proofs.SameMeaning.{same_meaning}
use Rattle.rule_lines.proofs.writing.put_recurrence.Goals as goal

pub returns-clause-back : goal.returns-clause-back
returns-clause-back c = reads_back

pub returns-clause-days : goal.returns-clause-days
returns-clause-days c = same_meaning
