-- Month lengths and the months of a year.
use Rattle.std.specs.Prelude.{ℕ, zero, suc, ◌+◌, Bool, cond, ◌&&◌, ◌||◌, Some, None, Option, ◌==◌, nat_le}
use Rattle.calendar.specs.Years.{is_leap}

unfoldable pub month_length : Bool → ℕ → ℕ
month_length leap m = cond (m == 2) (cond leap 29 28) (cond (m == 4 || (m == 6 || (m == 9 || m == 11))) 30 31)

abbrev pub is_month : ℕ → Bool
is_month m = nat_le 1 m && nat_le m 12

-- the days of a month of a year, none where there is no such month
abbrev pub length_at : ℕ → ℕ → Option ℕ
length_at y m = cond (is_month m) (Some (month_length (is_leap y) m)) None

-- the days of a year's first k months
unfoldable pub before : Bool → ℕ → ℕ
before leap zero = 0
before leap (suc k) = before leap k + month_length leap (suc k)

-- of the months 1 to k the last that has begun by the day n of a year, which counts from 0
unfoldable pub begun : Bool → ℕ → ℕ → ℕ
begun leap n zero = 0
begun leap n (suc k) = cond (nat_le (before leap k) n) (suc k) (begun leap n k)
