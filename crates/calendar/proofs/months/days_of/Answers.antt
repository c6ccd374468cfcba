-- The sum of a row's first lengths.
use Rattle.std.proofs.Common.{◌∙◌}
use Rattle.calendar.proofs.MonthRows.{rows, row_sum}
use Rattle.calendar.proofs.months.days_of.Goals as goal

pub returns : goal.returns
unfolding rows
returns c = c.total.ensures ∙ row_sum c.args.leap c.args.months c.requires
