use Rattle.std.proofs.Common.{rules}
use Rattle.std.proofs.iter.runs.Made.{chains}
use Rattle.diary.proofs.drafts.Drafts.reserved.Goals as goal

pub returns : goal.returns
returns c = search (rules, chains)
