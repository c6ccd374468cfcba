-- The bounds of the parts, and which parts may not stand together.
use Rattle.std.specs.Prelude.{ℕ, Bool, true, false, not, ◌&&◌, Some, None, Option, nat_le}
use Rattle.std.specs.List.{list_all}
use Rattle.recurrence.specs.declared.parts.Frequency.{Frequency}
use Rattle.recurrence.specs.declared.parts.Frequency.TheVariants.{Daily, Weekly, Monthly, Yearly}
use Rattle.recurrence.specs.declared.parts.Ordinal.{Ordinal}
use Rattle.recurrence.specs.declared.parts.Ordinal.TheVariants.{FromStart, FromEnd}
use Rattle.recurrence.specs.declared.parts.DayEntry.{DayEntry}
use Rattle.recurrence.specs.declared.parts.Few.{Few}
use Rattle.recurrence.specs.declared.parts.Pattern.{Pattern}
use Rattle.recurrence.specs.Entries.{entries, given}

abbrev pub within : ℕ → ℕ → ℕ → Bool
within low high n = nat_le low n && nat_le n high

abbrev pub month_fits : ℕ → Bool
month_fits m = within 1 12 m

abbrev pub number : Ordinal → ℕ
number (FromStart n) = n
number (FromEnd n) = n

abbrev pub month_day_fits : Ordinal → Bool
month_day_fits e = within 1 31 (number e)

abbrev pub ordinal_fits : Option Ordinal → Bool
ordinal_fits None = true
ordinal_fits (Some o) = within 1 53 (number o)

abbrev pub day_entry_fits : DayEntry → Bool
day_entry_fits e = ordinal_fits e.ordinal

-- at most 12 entries, each in its bounds
abbrev pub few_fit : {X : Type 0} → (X → Bool) → Few X → Bool
few_fit f few = nat_le few.len 12 && list_all f (entries few)

abbrev pub pattern_fits : Pattern → Bool
pattern_fits p = within 1 999 p.interval
    && (few_fit month_fits p.months && (few_fit month_day_fits p.month_days && few_fit day_entry_fits p.week_days))

-- without an ordinal
abbrev pub is_every : Option Ordinal → Bool
is_every None = true
is_every (Some o) = false

abbrev pub plain : DayEntry → Bool
plain e = is_every e.ordinal

-- no ordinal in DAILY and WEEKLY, and no BYMONTHDAY in WEEKLY
abbrev pub suits : Frequency → Few Ordinal → Few DayEntry → Bool
suits Daily days weekdays = list_all plain (entries weekdays)
suits Weekly days weekdays = list_all plain (entries weekdays) && not (given days)
suits Monthly days weekdays = true
suits Yearly days weekdays = true
