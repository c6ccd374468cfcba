-- The days that a pattern picks in its active periods.
use Rattle.std.specs.Prelude.{ℕ, ◌+◌, ◌-◌, ◌/◌, ◌%◌, Bool, true, false, cond, not, ◌&&◌, ◌||◌, Some, None, Option, ◌==◌}
use Rattle.std.specs.List.{list_any}
use Rattle.calendar.specs.Years.{year_length, year_of}
use Rattle.calendar.specs.Months.{month_length}
use Rattle.calendar.specs.Dates.{leap_of, year_day, month_of, month_day}
use Rattle.calendar.specs.declared.weekdays.Weekday.{Weekday}
use Rattle.calendar.specs.declared.weekdays.Weekday.TheVariants.{Monday, Tuesday, Wednesday, Thursday, Friday, Saturday, Sunday}
use Rattle.calendar.specs.Weekdays.{weekday_number}
use Rattle.recurrence.specs.declared.parts.Frequency.{Frequency}
use Rattle.recurrence.specs.declared.parts.Frequency.TheVariants.{Daily, Weekly, Monthly, Yearly}
use Rattle.recurrence.specs.declared.parts.Ordinal.{Ordinal}
use Rattle.recurrence.specs.declared.parts.Ordinal.TheVariants.{FromStart, FromEnd}
use Rattle.recurrence.specs.declared.parts.DayEntry.{DayEntry}
use Rattle.recurrence.specs.declared.parts.Few.{Few}
use Rattle.recurrence.specs.declared.parts.Pattern.{Pattern}
use Rattle.recurrence.specs.Entries.{entries, given}
use Rattle.pattern.specs.declared.facts.Facts.{Facts}
use Rattle.pattern.specs.Periods.{active}

-- ---- lists of entries

-- a part that is absent allows every day
abbrev pub allows : {X : Type 0} → (X → Bool) → Few X → Bool
allows f few = not (given few) || list_any f (entries few)

-- ---- a day by its facts

-- the days of the month, or of the year, before a day, and those after it
abbrev pub lead : Bool → ℕ → ℕ
lead month d = cond month (month_day d - 1) (year_day d)

abbrev pub rest : Bool → ℕ → ℕ
rest month d = cond month (month_length (leap_of d) (month_of d) - month_day d) (year_length (year_of d) - 1 - year_day d)

-- the weekday with a number
abbrev pub weekday_by : ℕ → Weekday
weekday_by n =
    cond (n == 0) Monday (cond (n == 1) Tuesday (cond (n == 2) Wednesday (cond (n == 3) Thursday (cond (n == 4) Friday (cond (n == 5) Saturday Sunday)))))

-- the nth of its weekday from the beginning, and from the end
abbrev pub facts : Bool → ℕ → Facts
facts month d = record {
  month = month_of d;
  day = month_day d;
  back = month_length (leap_of d) (month_of d) - month_day d + 1;
  weekday = weekday_by (d % 7);
  nth = lead month d / 7 + 1;
  last = rest month d / 7 + 1;
}

-- an ordinal counts in the month in MONTHLY and in YEARLY with BYMONTH, else in the year
abbrev pub in_month : Frequency → Bool → Bool
in_month Daily months = false
in_month Weekly months = false
in_month Monthly months = true
in_month Yearly months = months

-- ---- BYMONTH, BYMONTHDAY, BYDAY

abbrev pub at_month : Facts → ℕ → Bool
at_month f m = f.month == m

-- a place, by its numbers from the beginning and from the end
abbrev pub at_place : ℕ → ℕ → Ordinal → Bool
at_place nth last (FromStart n) = nth == n
at_place nth last (FromEnd n) = last == n

abbrev pub at_month_day : Facts → Ordinal → Bool
at_month_day f e = at_place f.day f.back e

abbrev pub counts : Facts → Option Ordinal → Bool
counts f None = true
counts f (Some e) = at_place f.nth f.last e

abbrev pub at_weekday : Facts → DayEntry → Bool
at_weekday f e = weekday_number f.weekday == weekday_number e.weekday && counts f e.ordinal

abbrev pub listed : Pattern → Facts → Bool
listed p f = allows (at_month f) p.months
    && (allows (at_month_day f) p.month_days && allows (at_weekday f) p.week_days)

-- ---- what the start implies where neither BYMONTHDAY nor BYDAY is given

abbrev pub implied : Frequency → Bool → ℕ → ℕ → Bool
implied Daily months start d = true
implied Weekly months start d = d % 7 == start % 7
implied Monthly months start d = month_day d == month_day start
implied Yearly months start d = month_day d == month_day start && (months || month_of d == month_of start)

abbrev pub picked : Pattern → ℕ → ℕ → Bool
picked p start d = listed p (facts (in_month p.frequency (given p.months)) d)
    && ((given p.month_days || given p.week_days) || implied p.frequency (given p.months) start d)

-- a day of an active period that is picked in it
unfoldable pub picks : Pattern → ℕ → ℕ → Bool
picks p start d = active p start d && picked p start d
