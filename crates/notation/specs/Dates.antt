-- Days as yyyymmdd, and moments as yyyymmddThhmm00.
use Rattle.std.specs.Prelude.{ℕ, ◌+◌, ◌*◌, ◌/◌, ◌%◌, cond, ◌&&◌, List, Ok, Err, Result, ◌==◌, nat_le}
use Rattle.calendar.specs.declared.date.Date.{Date}
use Rattle.calendar.specs.declared.starts.Moment.{Moment}
use Rattle.calendar.specs.Dates.{day_at}
use Rattle.refusal.specs.declared.Refusal.{Refusal}
use Rattle.refusal.specs.declared.Refusal.TheVariants.{Malformed, OutOfBounds}
use Rattle.notation.specs.Digits.{numeral}
use Rattle.notation.specs.Fields.{cut_at, formed, in_range, and_then}

-- four digits of the year, two of the month, two of the day
abbrev pub date_named : ℕ → Date
date_named n = record { year = n / 10000; month = n / 100 % 100; day = n % 100 }

-- the day that yyyymmdd names
abbrev pub day_named : List ℕ → Result ℕ Refusal
day_named xs = and_then (formed (numeral 8 8 xs)) (λ n. in_range (day_at (date_named n)))

-- the minute that hhmm00 names: seconds other than 00 are no form of it
abbrev pub clock_named : ℕ → Result ℕ Refusal
clock_named n = cond (n % 100 == 0) (cond (nat_le (n / 10000) 23 && nat_le (n / 100 % 100) 59) (Ok (n / 10000 * 60 + n / 100 % 100)) (Err OutOfBounds)) (Err Malformed)

-- the day and the minute that yyyymmddThhmm00 names: first the form of both
abbrev pub moment_named : List ℕ → Result Moment Refusal
moment_named xs =
    and_then (formed (cut_at 84 xs)) (λ p.
    and_then (formed (numeral 8 8 p.0)) (λ d.
    and_then (formed (numeral 6 6 p.1)) (λ t.
    and_then (clock_named t) (λ c.
    and_then (in_range (day_at (date_named d))) (λ k. Ok (record { day = k; clock = c }))))))
