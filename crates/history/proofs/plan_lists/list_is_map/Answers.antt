use Rattle.history.proofs.Placings.{placed_is_put, at_placings, asc_placings, occurrences_in}
use Rattle.history.proofs.plan_lists.list_is_map.Goals as goal

pub returns : goal.returns
returns c = record { one = placed_is_put; all = at_placings; ascending = asc_placings; occurrences = occurrences_in }
