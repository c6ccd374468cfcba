-- A recurrence from the text of a rule.
use Rattle.std.specs.Prelude.{◌≡◌, ℕ, ◌+◌, min, cond, List, [], ◌∷◌, Some, None, Ok, Err, Option, Result, nat_lt}
use Rattle.std.specs.Option.{unwrap_or}
use Rattle.calendar.specs.Years.{last_day}
use Rattle.calendar.specs.declared.starts.Moment.{Moment}
use Rattle.calendar.specs.declared.weekdays.Weekday.TheVariants.{Monday}
use Rattle.refusal.specs.declared.Refusal.{Refusal}
use Rattle.refusal.specs.declared.Refusal.TheVariants.{BadPart}
use Rattle.notation.specs.Fields.{and_then}
use Rattle.recurrence.specs.Entries.{none}
use Rattle.recurrence.specs.declared.parts.Frequency.{Frequency}
use Rattle.recurrence.specs.declared.parts.Ordinal.TheVariants.{FromStart}
use Rattle.recurrence.specs.declared.parts.Recurrence.{Recurrence}
use Rattle.rule.specs.declared.rules.Rule.{Rule}
use Rattle.rule.specs.Refused.{refusal, Made}
use Rattle.rule_text.specs.declared.parts.Parts.{Parts}
use Rattle.rule_text.specs.Lists.{fields_at}
use Rattle.rule_text.specs.Parts.{part_read, blank_day}

-- no part yet
abbrev pub no_parts : Parts
no_parts = record { frequency = None; interval = None; week_start = None; count = None; until = None; months = None; month_days = None; week_days = None }

-- part after part
abbrev pub parts_read : List (List ℕ) → Parts → Result Parts Refusal
parts_read [] p = Ok p
parts_read (f ∷ fs) p = and_then (part_read p f) (parts_read fs)

-- the first field that is no part, or a part that was there already
abbrev pub refused_in : (Parts → Option (List ℕ)) → List ℕ → Result Parts Refusal → Option (List ℕ)
refused_in more f (Ok q) = more q
refused_in more f (Err e) = Some f

abbrev pub bad_field : List (List ℕ) → Parts → Option (List ℕ)
bad_field [] p = None
bad_field (f ∷ fs) p = refused_in (bad_field fs) f (part_read p f)

-- the day after the last: UNTIL's date is the last day, or the day before it where its time comes before the clock
abbrev pub after_last : ℕ → Moment → ℕ
after_last clock m = cond (nat_lt m.clock clock) m.day (min m.day last_day + 1)

abbrev pub settled_by : Frequency → Option ℕ → Parts → Recurrence
settled_by f until p = record {
  pattern = record {
    frequency = f;
    interval = unwrap_or p.interval 1;
    week_start = unwrap_or p.week_start Monday;
    months = unwrap_or p.months (none 0);
    month_days = unwrap_or p.month_days (none (FromStart 0));
    week_days = unwrap_or p.week_days (none blank_day);
  };
  count = p.count;
  until = until;
}

-- UNTIL must name a moment, if it is there
abbrev pub ended : Frequency → Option (Result Moment Refusal) → ℕ → Parts → Result Recurrence Refusal
ended f None clock p = Ok (settled_by f None p)
ended f (Some (Ok m)) clock p = Ok (settled_by f (Some (after_last clock m)) p)
ended f (Some (Err e)) clock p = Err e

-- FREQ must be there
abbrev pub begun : Option Frequency → ℕ → Parts → Result Recurrence Refusal
begun None clock p = Err BadPart
begun (Some f) clock p = ended f p.until clock p

-- the recurrence that a text names, for a clock
abbrev pub recurrence_named : ℕ → List ℕ → Result Recurrence Refusal
recurrence_named clock xs = and_then (parts_read (fields_at 59 xs) no_parts) (λ p. begun p.frequency clock p)

-- what a start and a text are refused for: first the text, then the rule
abbrev pub rule_refused : ℕ → Result Recurrence Refusal → Option Refusal
rule_refused day (Ok r) = refusal day (Some r)
rule_refused day (Err e) = Some e

-- what a rule has of its start and its text
abbrev pub RuleOf : ℕ → Result Recurrence Refusal → Rule → Type 0
RuleOf day (Ok r) rule = Made day (Some r) rule
RuleOf day (Err e) rule = ⊥

abbrev pub ReadsRule : Moment → List ℕ → Result Rule Refusal → Type 0
ReadsRule m xs (Ok rule) = (rule_refused m.day (recurrence_named m.clock xs) ≡ None) × RuleOf m.day (recurrence_named m.clock xs) rule
ReadsRule m xs (Err e) = rule_refused m.day (recurrence_named m.clock xs) ≡ Some e
