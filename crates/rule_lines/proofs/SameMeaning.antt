-- The same parts have the same days, and the same refusal.
use Rattle.std.proofs.Common.{◌≡◌, ℕ, not, ◌&&◌, ◌||◌, is_some, Some, refl, ap, ◌∙◌}
use Rattle.recurrence.specs.declared.parts.DayEntry.{DayEntry}
use Rattle.recurrence.specs.declared.parts.Few.{Few}
use Rattle.recurrence.specs.declared.parts.Frequency.{Frequency}
use Rattle.recurrence.specs.declared.parts.Frequency.TheVariants.{Daily, Weekly, Monthly, Yearly}
use Rattle.recurrence.specs.declared.parts.Ordinal.{Ordinal}
use Rattle.recurrence.specs.declared.parts.Recurrence.{Recurrence}
use Rattle.pattern.specs.Picks.{picks}
use Rattle.rule.specs.Lists.{chooses}
use Rattle.recurrence.specs.Bounds.{suits}
use Rattle.rule.specs.Refused.{refusal, first_refusal, in_bounds, conflict, list_of, pattern_of, among}
use Rattle.rule.specs.Spans.{limited, span, stop}
use Rattle.rule_lines.specs.Writing.{SameFew, SameParts, SameDays}

same_picks : (a b : Recurrence) → SameParts a b → (start d : ℕ) → chooses (pattern_of (Some a)) start d ≡ chooses (pattern_of (Some b)) start d
unfolding chooses picks
same_picks a b s start d =
    rw (s.frequency, s.interval, s.week_start, s.months.items, s.month_days.items, s.week_days.items, s.months.len, s.month_days.len, s.week_days.len) refl

pub same_days : (a b : Recurrence) → SameParts a b → (start : ℕ) → list_of start (Some a) ≡ list_of start (Some b)
same_days a b s start =
    λ j. limited (s.count j) (span (λ d. same_picks a b s start d j) start (stop (s.until j)))

same_bounds : (a b : Recurrence) → SameParts a b → (start : ℕ) → in_bounds start (Some a) ≡ in_bounds start (Some b)
same_bounds a b s start =
    rw (s.interval, s.count, s.months.items, s.month_days.items, s.week_days.items, s.months.len, s.month_days.len, s.week_days.len) refl

same_suits : (f : Frequency) (d e : Few Ordinal) (k l : Few DayEntry) → SameFew d e → SameFew k l → suits f d k ≡ suits f e l
same_suits Daily d e k l s t = rw t.items refl
same_suits Weekly d e k l s t = rw (t.items, s.len) refl
same_suits Monthly d e k l s t = refl
same_suits Yearly d e k l s t = refl

same_conflict : (a b : Recurrence) → SameParts a b → conflict (Some a) ≡ conflict (Some b)
same_conflict a b s =
    let e = ap (λ f. suits f a.pattern.month_days a.pattern.week_days) s.frequency ∙ same_suits b.pattern.frequency a.pattern.month_days b.pattern.month_days a.pattern.week_days b.pattern.week_days s.month_days s.week_days in
    λ j. not (e j) || (is_some (s.count j) && is_some (s.until j))

pub same_refusal : (a b : Recurrence) → SameParts a b → (start : ℕ) → refusal start (Some a) ≡ refusal start (Some b)
unfolding refusal
same_refusal a b s start = λ j. first_refusal (same_bounds a b s start j) (same_conflict a b s j) (among start (same_days a b s start j))

pub same_meaning : SameDays
same_meaning a b s start = (same_refusal a b s start, same_days a b s start)
