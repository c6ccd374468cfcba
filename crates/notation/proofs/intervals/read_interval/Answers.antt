-- The clause on all texts at each return: it is one theorem.
use Rattle.notation.proofs.Spellings.{spelling}
use Rattle.notation.proofs.intervals.read_interval.Goals as goal

pub returns-in_default-clause-spelled : goal.returns-in_default-clause-spelled
returns-in_default-clause-spelled c = spelling

pub returns-in_default-cut-clause-spelled : goal.returns-in_default-cut-clause-spelled
returns-in_default-cut-clause-spelled c = spelling

pub returns-in_err-count-clause-spelled : goal.returns-in_err-count-clause-spelled
returns-in_err-count-clause-spelled c = spelling

pub returns-in_err-step-clause-spelled : goal.returns-in_err-step-clause-spelled
returns-in_err-step-clause-spelled c = spelling

pub returns-in_err-start-clause-spelled : goal.returns-in_err-start-clause-spelled
returns-in_err-start-clause-spelled c = spelling

pub returns-clause-spelled : goal.returns-clause-spelled
returns-clause-spelled c = spelling
