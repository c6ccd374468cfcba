-- A leap year, by the rule.
use Rattle.calendar.specs.Years.{is_leap}
use Rattle.calendar.proofs.years.is_leap.Goals as goal

pub returns : goal.returns
unfolding is_leap
returns c = c.leap_by.ensures
