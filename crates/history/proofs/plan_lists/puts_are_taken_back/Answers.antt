use Rattle.history.proofs.Maps.{back}
use Rattle.history.proofs.plan_lists.puts_are_taken_back.Goals as goal

pub returns : goal.returns
returns c = back
