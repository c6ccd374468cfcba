use Rattle.history.proofs.Explained.{redrafted_explained, checked_explained}
use Rattle.history.proofs.changes.drafts_are_explained.Goals as goal

pub returns : goal.returns
returns c = record { drafts = redrafted_explained; check = checked_explained }
