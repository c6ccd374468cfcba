-- The date of a day and the day of a date.
use Rattle.std.specs.Prelude.{ℕ, ◌+◌, ◌-◌, Bool, cond, ◌&&◌, Some, None, Option, nat_le}
use Rattle.calendar.specs.declared.date.Date.{Date}
use Rattle.calendar.specs.Years.{last_day, is_leap, year_start, year_of}
use Rattle.calendar.specs.Months.{month_length, is_month, before, begun}

abbrev pub leap_of : ℕ → Bool
leap_of d = is_leap (year_of d)

-- a day's number in its year, from 0
abbrev pub year_day : ℕ → ℕ
year_day d = d - year_start (year_of d)

unfoldable pub month_of : ℕ → ℕ
month_of d = begun (leap_of d) (year_day d) 12

-- a day's number in its month, from 1
unfoldable pub month_day : ℕ → ℕ
month_day d = year_day d - before (leap_of d) (month_of d - 1) + 1

abbrev pub date_of : ℕ → Date
date_of d = record { year = year_of d; month = month_of d; day = month_day d }

-- the date of a day, none past the last
abbrev pub date_at : ℕ → Option Date
date_at d = cond (nat_le d last_day) (Some (date_of d)) None

-- the day of a date, whether or not there is such a date
unfoldable pub day_of : Date → ℕ
day_of t = year_start t.year + before (is_leap t.year) (t.month - 1) + (t.day - 1)

unfoldable pub is_date : Date → Bool
is_date t = (nat_le 1900 t.year && nat_le t.year 2199) && (is_month t.month && (nat_le 1 t.day && nat_le t.day (month_length (is_leap t.year) t.month)))

-- the day of a date, none where there is no such date
abbrev pub day_at : Date → Option ℕ
day_at t = cond (is_date t) (Some (day_of t)) None
