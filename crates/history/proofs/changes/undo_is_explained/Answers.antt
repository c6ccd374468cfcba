use Rattle.history.proofs.Explained.{undo_explained}
use Rattle.history.proofs.changes.undo_is_explained.Goals as goal

pub returns : goal.returns
returns c = undo_explained
