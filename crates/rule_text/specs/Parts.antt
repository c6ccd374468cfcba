-- The parts of a rule, each read from its value and given once.
use Rattle.std.specs.Prelude.{ℕ, Bool, List, is_some, Some, None, Ok, Err, Option, Result}
use Rattle.calendar.specs.declared.starts.Moment.{Moment}
use Rattle.calendar.specs.declared.weekdays.Weekday.TheVariants.{Monday}
use Rattle.refusal.specs.declared.Refusal.{Refusal}
use Rattle.refusal.specs.declared.Refusal.TheVariants.{Malformed, BadPart, OutOfBounds}
use Rattle.notation.specs.Dates.{moment_named}
use Rattle.notation.specs.Digits.{capped}
use Rattle.notation.specs.Fields.{cut_at}
use Rattle.recurrence.specs.declared.parts.DayEntry.{DayEntry}
use Rattle.recurrence.specs.declared.parts.Ordinal.TheVariants.{FromStart}
use Rattle.rule_text.specs.declared.parts.Parts.{Parts}
use Rattle.rule_text.specs.declared.words.Part.{Part}
use Rattle.rule_text.specs.declared.words.Part.TheVariants.{Freq, Interval, WeekStart, Count, Until, Months, MonthDays, WeekDays}
use Rattle.rule_text.specs.Entries.{month_named, month_day_named, day_entry_named}
use Rattle.rule_text.specs.Lists.{few_named}
use Rattle.rule_text.specs.Words.{frequency_named, weekday_named, part_named}

-- a moment by its form; one that there is not is refused later
abbrev pub limited : Result Moment Refusal → Option (Result Moment Refusal)
limited (Ok m) = Some (Ok m)
limited (Err Malformed) = None
limited (Err e) = Some (Err OutOfBounds)

abbrev pub until_named : List ℕ → Option (Result Moment Refusal)
until_named xs = limited (moment_named xs)

-- a part that is there already, or has not its form, is refused
abbrev pub once : {X : Type 0} → Option X → Option X → Result (Option X) Refusal
once None None = Err BadPart
once None (Some x) = Ok (Some x)
once (Some y) o = Err BadPart

-- whether a part is there
abbrev pub there : Parts → Part → Bool
there p Freq = is_some p.frequency
there p Interval = is_some p.interval
there p WeekStart = is_some p.week_start
there p Count = is_some p.count
there p Until = is_some p.until
there p Months = is_some p.months
there p MonthDays = is_some p.month_days
there p WeekDays = is_some p.week_days

-- the parts with one of them filled, unless it was refused
abbrev pub filled : {X : Type 0} → (X → Parts) → Result X Refusal → Result Parts Refusal
filled set (Ok x) = Ok (set x)
filled set (Err e) = Err e

abbrev pub blank_day : DayEntry
blank_day = record { weekday = Monday; ordinal = None }

-- the parts with one more
abbrev pub with : Parts → Part → List ℕ → Result Parts Refusal
with p Freq xs = filled (λ x. record p { frequency = x }) (once p.frequency (frequency_named xs))
with p Interval xs = filled (λ x. record p { interval = x }) (once p.interval (capped xs))
with p WeekStart xs = filled (λ x. record p { week_start = x }) (once p.week_start (weekday_named xs))
with p Count xs = filled (λ x. record p { count = x }) (once p.count (capped xs))
with p Until xs = filled (λ x. record p { until = x }) (once p.until (until_named xs))
with p Months xs = filled (λ x. record p { months = x }) (once p.months (few_named month_named 0 xs))
with p MonthDays xs = filled (λ x. record p { month_days = x }) (once p.month_days (few_named month_day_named (FromStart 0) xs))
with p WeekDays xs = filled (λ x. record p { week_days = x }) (once p.week_days (few_named day_entry_named blank_day xs))

-- NAME=value
abbrev pub named : Parts → List ℕ → Option Part → Result Parts Refusal
named p value None = Err BadPart
named p value (Some part) = with p part value

abbrev pub fielded : Parts → Option (List ℕ × List ℕ) → Result Parts Refusal
fielded p None = Err BadPart
fielded p (Some f) = named p f.1 (part_named f.0)

abbrev pub part_read : Parts → List ℕ → Result Parts Refusal
part_read p xs = fielded p (cut_at 61 xs)
