-- What is proved of days and dates as a whole.
use Rattle.std.specs.Prelude.{◌≡◌, ℕ, ◌+◌, ◌<◌, true, cond, Some, nat_lt}
use Rattle.calendar.specs.declared.date.Date.{Date}
use Rattle.calendar.specs.Years.{last_day, is_leap}
use Rattle.calendar.specs.Months.{month_length}
use Rattle.calendar.specs.Dates.{date_of, date_at, day_at, is_date}

-- a date is that of a day just where the day is that of the date
abbrev pub Inverse : Type 0
Inverse = (d : ℕ) (t : Date) → (date_at d ≡ Some t → day_at t ≡ Some d) × (day_at t ≡ Some d → date_at d ≡ Some t)

-- every date of 1900 to 2199 has a day, and only one
abbrev pub OneDay : Type 0
OneDay = (t : Date) → is_date t ≡ true → (d : ℕ) × (date_at d ≡ Some t) × ((e : ℕ) → date_at e ≡ Some t → e ≡ d)

-- the date that follows a date: the next of its month, else the first of the next month, else 1 January
abbrev pub next_date : Date → Date
next_date t = cond (nat_lt t.day (month_length (is_leap t.year) t.month))
    (record { year = t.year; month = t.month; day = t.day + 1 })
    (cond (nat_lt t.month 12) (record { year = t.year; month = t.month + 1; day = 1 }) (record { year = t.year + 1; month = 1; day = 1 }))

-- the first day is 1 January 1900, and the date of the next day is the next date
abbrev pub Follows : Type 0
Follows = (date_of 0 ≡ record { year = 1900; month = 1; day = 1 }) × ((d : ℕ) → d < last_day → date_of (d + 1) ≡ next_date (date_of d))
