use Rattle.history.proofs.Explained.{agenda_explained}
use Rattle.history.proofs.agendas.agendas_are_explained.Goals as goal

pub returns : goal.returns
returns c = agenda_explained
