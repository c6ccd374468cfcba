-- Leap years and the days of years. Day 0 is Monday 1 January 1900.
use Rattle.std.specs.Prelude.{ℕ, zero, suc, ◌+◌, ◌-◌, ◌*◌, ◌/◌, ◌%◌, Bool, cond, not, ◌&&◌, ◌||◌, ◌==◌, nat_lt}

-- the last day is 31 December 2199
abbrev pub last_day : ℕ
last_day = 109572

unfoldable pub is_leap : ℕ → Bool
is_leap y = y % 4 == 0 && (not (y % 100 == 0) || y % 400 == 0)

abbrev pub year_length : ℕ → ℕ
year_length y = cond (is_leap y) 366 365

-- the days of the first k years from 1900 on
unfoldable pub days_of_years : ℕ → ℕ
days_of_years zero = 0
days_of_years (suc k) = days_of_years k + year_length (1900 + k)

-- the first day of a year: 365 days for each year before it, and one for each leap year among them
unfoldable pub year_start : ℕ → ℕ
year_start y = 365 * (y - 1) + (y - 1) / 4 - (y - 1) / 100 + (y - 1) / 400 - 693595

-- the year of a day: by 365 days a year, or one less where that year has not begun
unfoldable pub year_of : ℕ → ℕ
year_of d = cond (nat_lt d (year_start (1900 + d / 365))) (1899 + d / 365) (1900 + d / 365)
