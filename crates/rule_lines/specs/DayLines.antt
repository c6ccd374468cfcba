-- What the lines DTSTART, RRULE and RDATE say of the days of a series, and the lines of a rule.
use Rattle.std.specs.Prelude.{◌≡◌, ℕ, ◌<◌, cond, List, [], ◌∷◌, ◌++◌, length, Some, None, Ok, Err, codes, Option, Result, ◌==◌}
use Rattle.std.specs.List.{flat_map}
use Rattle.std.specs.Str.{bytes_eq}
use Rattle.std.specs.Option.{option_map}
use Rattle.calendar.specs.declared.starts.Moment.{Moment}
use Rattle.calendar.specs.Dates.{date_of}
use Rattle.refusal.specs.declared.Refusal.{Refusal}
use Rattle.notation.specs.Dates.{moment_named}
use Rattle.notation.specs.Fields.{cut_at}
use Rattle.page.specs.Lines.{date_text, clock_text}
use Rattle.recurrence.specs.declared.parts.Pattern.{Pattern}
use Rattle.recurrence.specs.declared.parts.Recurrence.{Recurrence}
use Rattle.rule.specs.declared.rules.Rule.{Rule}
use Rattle.rule.specs.Cut.{days_in}
use Rattle.rule.specs.Refused.{list_of, refusal}
use Rattle.rule.specs.Remade.{recurrence_in}
use Rattle.dates.specs.Unions.{slot, merged}
use Rattle.rule_text.specs.Lists.{fields_at, if_some}
use Rattle.rule_text.specs.Reading.{recurrence_named}
use Rattle.rule_lines.specs.Writing.{recurrence_text}

-- ---- the values of the lines

abbrev pub value_first : List ℕ → Option (List ℕ × List ℕ) → List (List ℕ) → List (List ℕ)
value_first name None values = values
value_first name (Some f) values = cond (bytes_eq f.0 name) (f.1 ∷ values) values

-- what stands behind the colon of each line of that name
abbrev pub values_of : List ℕ → List (List ℕ) → List (List ℕ)
values_of name [] = []
values_of name (l ∷ ls) = value_first name (cut_at 58 l) (values_of name ls)

-- ---- their days, if they are well-formed

abbrev pub given : {X Y : Type 0} → Result X Refusal → (X → Option Y) → Option Y
given (Ok x) f = f x
given (Err e) f = None

abbrev pub unrefused : Option Refusal → List ℕ → Option (List ℕ)
unrefused None days = Some days
unrefused (Some e) days = None

-- a start alone is a day; with an RRULE it has the days of the rule
abbrev pub rule_days : Moment → List (List ℕ) → Option (List ℕ)
rule_days m [] = Some (m.day ∷ [])
rule_days m (t ∷ ts) = given (recurrence_named m.clock t) (λ r. unrefused (refusal m.day (Some r)) (list_of m.day (Some r)))

-- the days of moments at one clock, ascending, each once
abbrev pub moment_days : ℕ → List (List ℕ) → Option (List ℕ)
moment_days clock [] = Some []
moment_days clock (t ∷ ts) = given (moment_named t) (λ m. cond (m.clock == clock) (option_map (slot m.day) (moment_days clock ts)) None)

abbrev pub start_days : List (List ℕ) → List (List ℕ) → List (List ℕ) → Option (List ℕ)
start_days [] rules dates = None
start_days (s ∷ ss) rules dates =
    given (moment_named s) (λ m.
    if_some (rule_days m rules) (λ xs.
    if_some (moment_days m.clock (flat_map (fields_at 44) dates)) (λ ys. Some (merged xs ys))))

-- the days of the lines: those of DTSTART with RRULE, and of RDATE, each once
abbrev pub lines_days : List (List ℕ) → Option (List ℕ)
lines_days ls = start_days (values_of (codes "DTSTART") ls) (values_of (codes "RRULE") ls) (values_of (codes "RDATE") ls)

-- ---- the lines of a rule

abbrev pub start_text : ℕ → ℕ → List ℕ
start_text day clock = date_text (date_of day) ++ (84 ∷ (clock_text clock ++ codes "00"))

-- the text of the recurrence, if there is one
abbrev pub rule_text : ℕ → Option Recurrence → List ℕ
rule_text clock None = []
rule_text clock (Some r) = recurrence_text clock r

abbrev pub repeat_line : ℕ → Option Recurrence → List (List ℕ)
repeat_line clock None = []
repeat_line clock (Some r) = (codes "RRULE:" ++ recurrence_text clock r) ∷ []

-- DTSTART, and RRULE if the rule recurs
abbrev pub rule_lines : ℕ → Rule → List (List ℕ)
rule_lines clock r = (codes "DTSTART:" ++ start_text r.choice.start clock) ∷ repeat_line clock (recurrence_in r)

-- ---- a rule's lines mean its days

-- the twelve items of each list
abbrev pub Twelve : Option Pattern → Type 0
Twelve None = Unit {0}
Twelve (Some p) = (length p.months.items ≡ 12) × (length p.month_days.items ≡ 12) × (length p.week_days.items ≡ 12)

-- of a rule with days, at a minute of the day
abbrev pub LinesMean : Type 0
LinesMean = (clock : ℕ) (r : Rule) (x : ℕ) (xs : List ℕ) → clock < 1440 → Twelve r.choice.pattern → days_in r ≡ x ∷ xs → lines_days (rule_lines clock r) ≡ Some (days_in r)
