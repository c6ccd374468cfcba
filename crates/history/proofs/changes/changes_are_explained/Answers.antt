use Rattle.history.proofs.Explained.{change_explained, entered_explained, committed_explained}
use Rattle.history.proofs.changes.changes_are_explained.Goals as goal

pub returns : goal.returns
returns c = record { any = change_explained; enter = entered_explained; commit = committed_explained }
