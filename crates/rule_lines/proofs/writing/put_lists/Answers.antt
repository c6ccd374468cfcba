use Rattle.std.proofs.Common.{arith}
use Rattle.std.proofs.lemmas.Grind.{common_steps}
use Rattle.rule_lines.proofs.writing.put_lists.Goals as goal

pub returns-clause-cases : goal.returns-clause-cases
returns-clause-cases c = rw (← c.as_slice.ensures, ← c.as_slice-2.ensures, ← c.as_slice-3.ensures) (grind (arith, common_steps))
