-- The periods of a recurrence: days, weeks, months or years.
use Rattle.std.specs.Prelude.{ℕ, ◌+◌, ◌-◌, ◌*◌, ◌/◌, ◌%◌, Bool, ◌==◌}
use Rattle.calendar.specs.Years.{year_of}
use Rattle.calendar.specs.Dates.{month_of}
use Rattle.calendar.specs.Weekdays.{weekday_number}
use Rattle.recurrence.specs.declared.parts.Frequency.{Frequency}
use Rattle.recurrence.specs.declared.parts.Frequency.TheVariants.{Daily, Weekly, Monthly, Yearly}
use Rattle.recurrence.specs.declared.parts.Pattern.{Pattern}

-- the number of a day's period: a day, a week that begins on the weekday w, a month, a year
-- (7 days are added, since the week of day 0 may begin before it)
abbrev pub period : Frequency → ℕ → ℕ → ℕ
period Daily w d = d
period Weekly w d = (d + 7 - w) / 7
period Monthly w d = 12 * year_of d + month_of d
period Yearly w d = year_of d

abbrev pub period_in : Pattern → ℕ → ℕ
period_in p d = period p.frequency (weekday_number p.week_start) d

-- a day's period is active if it lies a multiple of INTERVAL periods from the start's
abbrev pub active : Pattern → ℕ → ℕ → Bool
active p start d = period_in p d % p.interval == period_in p start % p.interval
