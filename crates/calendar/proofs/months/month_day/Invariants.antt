-- The days before the month, with what is left, are the day of the year.
use Rattle.std.proofs.Common.{◌≡◌, ◌+◌, ◌-◌}
use Rattle.calendar.specs.Months.{before}
use Rattle.calendar.proofs.months.month_day.Given as goal

abbrev pub invariant-loop-month : goal.invariant-loop-month
invariant-loop-month l = before l.leap (l.month - 1) + l.left ≡ l.n
