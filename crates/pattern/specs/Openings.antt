-- Where a period begins.
use Rattle.std.specs.Prelude.{◌≡◌, ℕ, ◌+◌, ◌<◌, ◌≤◌, Option, MatchOption}
use Rattle.calendar.specs.declared.date.Date.{Date}
use Rattle.calendar.specs.Years.{is_leap, year_length, year_start, year_of}
use Rattle.calendar.specs.Months.{month_length}
use Rattle.calendar.specs.Dates.{month_of, month_day}
use Rattle.recurrence.specs.declared.parts.Frequency.{Frequency}
use Rattle.recurrence.specs.declared.parts.Frequency.TheVariants.{Daily, Weekly, Monthly, Yearly}
use Rattle.pattern.specs.Periods.{period}

-- t is the date of the day d, with its bounds
pub record DateIs (d : ℕ) (t : Date) : Type 0 where
  pub year_is : t.year ≡ year_of d
  pub month_is : t.month ≡ month_of d
  pub day_is : t.day ≡ month_day d
  pub year_low : 1900 ≤ t.year
  pub year_high : t.year < 2200
  pub month_low : 1 ≤ t.month
  pub month_high : t.month ≤ 12
  pub day_low : 1 ≤ t.day
  pub day_high : t.day ≤ month_length (is_leap t.year) t.month
  pub begins : year_start t.year ≤ d
  pub ends : d < year_start t.year + year_length t.year

-- r is the first day of the period q, or lies past all days
pub record Opens (f : Frequency) (w q r : ℕ) : Type 0 where
  pub under : (k : ℕ) → k < 109573 → k < r → period f w k < q
  pub over : (k : ℕ) → k < 109573 → r ≤ k → q ≤ period f w k
  pub is : r < 109573 → period f w r ≡ q

-- the first day of the period q, if there is one: else all days lie before q
abbrev pub OpensIf : Frequency → ℕ → ℕ → Option ℕ → Type 0
OpensIf f w q r = MatchOption r ((k : ℕ) → k < 109573 → period f w k < q) (λ d. Opens f w q d)

-- the numbers that a period may have here
abbrev pub least : Frequency → ℕ
least Daily = 0
least Weekly = 1
least Monthly = 22801
least Yearly = 1900

abbrev pub most : Frequency → ℕ
most Daily = 111000
most Weekly = 111000
most Monthly = 28000
most Yearly = 3300
