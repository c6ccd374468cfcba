use Rattle.history.proofs.OneLists.{one_list}
use Rattle.history.proofs.agendas.one_list.Goals as goal

pub returns : goal.returns
returns c = one_list
