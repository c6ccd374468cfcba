-- The entries of the lists of a rule.
use Rattle.std.specs.Prelude.{ℕ, ◌-◌, cond, List, [], ◌∷◌, length, take, drop, Some, None, Option, ◌==◌, nat_le}
use Rattle.std.specs.Option.{option_map}
use Rattle.calendar.specs.declared.weekdays.Weekday.{Weekday}
use Rattle.notation.specs.Digits.{numeral}
use Rattle.recurrence.specs.declared.parts.Ordinal.{Ordinal}
use Rattle.recurrence.specs.declared.parts.Ordinal.TheVariants.{FromStart, FromEnd}
use Rattle.recurrence.specs.declared.parts.DayEntry.{DayEntry}
use Rattle.rule_text.specs.Words.{weekday_named}

-- one or two digits
abbrev pub month_named : List ℕ → Option ℕ
month_named xs = numeral 1 2 xs

-- one or two digits behind a sign, if there is one: a minus counts from the end
abbrev pub signed : List ℕ → Option Ordinal
signed [] = None
signed (x ∷ xs) = cond (x == 45) (option_map FromEnd (numeral 1 2 xs)) (cond (x == 43) (option_map FromStart (numeral 1 2 xs)) (option_map FromStart (numeral 1 2 (x ∷ xs))))

abbrev pub month_day_named : List ℕ → Option Ordinal
month_day_named xs = signed xs

-- nothing names every such weekday
abbrev pub ordinal_named : List ℕ → Option (Option Ordinal)
ordinal_named [] = Some None
ordinal_named (x ∷ xs) = option_map Some (signed (x ∷ xs))

abbrev pub both : Option (Option Ordinal) → Option Weekday → Option DayEntry
both None w = None
both (Some o) None = None
both (Some o) (Some w) = Some (record { weekday = w; ordinal = o })

-- an ordinal, if there is one, and the two letters of a weekday
abbrev pub day_entry_named : List ℕ → Option DayEntry
day_entry_named xs = cond (nat_le 2 (length xs)) (both (ordinal_named (take (length xs - 2) xs)) (weekday_named (drop (length xs - 2) xs))) None
