use Rattle.std.proofs.Common.{refl}
use Rattle.calendar.specs.Years.{is_leap, year_start, year_of}
use Rattle.calendar.specs.Months.{month_length, before, begun}
use Rattle.calendar.specs.Dates.{month_of, month_day, day_of, is_date}
use Rattle.pattern.specs.Picks.{picks}
use Rattle.rule.specs.Lists.{chooses}
use Rattle.rule.proofs.known.known_dates.Goals as goal

pub returns : goal.returns
unfolding is_leap year_start year_of month_length before begun month_of month_day day_of is_date chooses picks
returns c = (refl, refl, refl, refl, refl, refl, refl, refl, refl)
