-- Known dates.
use Rattle.std.specs.Prelude.{◌≡◌, ℕ, List, [], ◌∷◌, map, replicate, Some, None, Option}
use Rattle.std.proofs.Common.{lit≤}
use Rattle.calendar.specs.declared.date.Date.{Date}
use Rattle.calendar.specs.declared.weekdays.Weekday.{Weekday}
use Rattle.calendar.specs.declared.weekdays.Weekday.TheVariants.{Monday, Tuesday, Friday, Sunday}
use Rattle.calendar.specs.Dates.{day_of, day_at}
use Rattle.source.specs.declared.intervals.Interval.{Interval}
use Rattle.source.specs.Days.{since}
use Rattle.source.specs.Intervals.{interval_days}
use Rattle.recurrence.specs.declared.parts.Frequency.TheVariants.{Weekly, Monthly}
use Rattle.recurrence.specs.declared.parts.Ordinal.TheVariants.{FromStart, FromEnd}
use Rattle.recurrence.specs.declared.parts.DayEntry.{DayEntry}
use Rattle.recurrence.specs.declared.parts.Few.{Few}
use Rattle.recurrence.specs.Entries.{none}
use Rattle.recurrence.specs.declared.parts.Recurrence.{Recurrence}
use Rattle.rule.specs.Refused.{list_of}

abbrev date : ℕ → ℕ → ℕ → Date
date y m d = record { year = y; month = m; day = d }

abbrev day : ℕ → ℕ → ℕ → ℕ
day y m d = day_of (date y m d)

abbrev one : {X : Type 0} → X → Few X
one x = record { items = replicate 12 x; len = 1 }

abbrev two : {X : Type 0} → X → X → Few X
two x y = record { items = x ∷ replicate 11 y; len = 2 }

abbrev on : Weekday → DayEntry
on w = record { weekday = w; ordinal = None }

-- MONTHLY with a COUNT and entries of BYDAY
abbrev monthly : ℕ → Few DayEntry → Option Recurrence
monthly n days = Some (record {
  pattern = record {
    frequency = Monthly;
    interval = 1;
    week_start = Monday;
    months = none 1;
    month_days = none (FromStart 1);
    week_days = days;
  };
  count = Some n;
  until = None;
})

-- WEEKLY;INTERVAL=2;COUNT=4;BYDAY=TU,SU, the weeks from a given weekday on
abbrev fortnightly : Weekday → Option Recurrence
fortnightly w = Some (record {
  pattern = record {
    frequency = Weekly;
    interval = 2;
    week_start = w;
    months = none 1;
    month_days = none (FromStart 1);
    week_days = two (on Tuesday) (on Sunday);
  };
  count = Some 4;
  until = None;
})

abbrev last_friday : DayEntry
last_friday = record { weekday = Friday; ordinal = Some (FromEnd 1) }

abbrev ends : List ℕ
ends = list_of (day 2024 1 31) (monthly 3 (none (on Monday)))

-- R3/20240107/P14D
abbrev rota : Interval
rota = record { start = 45296; step = 14; count = 3; day = lit≤ tt; rise = (lit≤ tt, lit≤ tt); few = lit≤ tt }

abbrev pub Known : Type 0
Known = (day_at (date 2000 2 29) ≡ Some 36583) × (day_at (date 2100 2 29) ≡ None)
    -- the 31st of a month where there is one, and its tail from 31 March on
    × (ends ≡ day 2024 1 31 ∷ day 2024 3 31 ∷ day 2024 5 31 ∷ [])
    × (since (day 2024 3 31) ends ≡ day 2024 3 31 ∷ day 2024 5 31 ∷ [])
    × (list_of (day 2024 3 31) (monthly 2 (none (on Monday))) ≡ day 2024 3 31 ∷ day 2024 5 31 ∷ [])
    -- the last Friday of a month
    × (list_of (day 2024 1 26) (monthly 3 (one last_friday)) ≡ day 2024 1 26 ∷ day 2024 2 23 ∷ day 2024 3 29 ∷ [])
    -- a fortnight on two weekdays, by weeks from Monday and from Sunday on
    × (list_of (day 1997 8 5) (fortnightly Monday) ≡ map (day 1997 8) (5 ∷ 10 ∷ 19 ∷ 24 ∷ []))
    × (list_of (day 1997 8 5) (fortnightly Sunday) ≡ map (day 1997 8) (5 ∷ 17 ∷ 19 ∷ 31 ∷ []))
    -- every two weeks, three times
    × (interval_days rota ≡ day 2024 1 7 ∷ day 2024 1 21 ∷ day 2024 2 4 ∷ [])
