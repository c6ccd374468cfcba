-- The first day of a year.
use Rattle.std.proofs.Common.{arith}
use Rattle.calendar.specs.Years.{year_start}
use Rattle.calendar.proofs.YearDays.{year_counts}
use Rattle.calendar.proofs.years.year_start.Goals as goal

pub returns : goal.returns
unfolding year_start
returns c = record { value = omega arith; counts = omega (arith, year_counts c.args.year (omega arith)); bound = omega arith }
