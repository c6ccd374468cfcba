-- What the list of a rule means, in the words of RFC 5545.
use Rattle.std.specs.Prelude.{◌≡◌, ℕ, ◌+◌, ◌-◌, ◌*◌, ◌%◌, ◌<◌, ◌≤◌, Bool, true, length, Some, None, Option, nat_eq}
use Rattle.source.specs.Days.{before}
use Rattle.recurrence.specs.declared.parts.Pattern.{Pattern}
use Rattle.rule.specs.declared.rules.Rule.{Rule}
use Rattle.rule.specs.Spans.{span, stop}
use Rattle.pattern.specs.Periods.{period_in}
use Rattle.pattern.specs.Picks.{picked, lead, rest, facts}
use Rattle.rule.specs.Lists.{days_of}
use Rattle.rule.specs.Cut.{days_in}
use Rattle.rule.specs.Refused.{among}

-- ---- the list

-- the period of d lies some number of times INTERVAL periods after the start's, and d is picked in it
pub record Due (p : Pattern) (start d : ℕ) : Type 0 where
  pub times : ℕ
  pub aligned : period_in p d ≡ period_in p start + times * p.interval
  pub picked_is : picked p start d ≡ true

-- without a recurrence only the start is due
abbrev pub DueIn : Option Pattern → ℕ → ℕ → Type 0
DueIn None start d = d ≡ start
DueIn (Some p) start d = Due p start d

-- COUNT leaves the day that comes after so many
abbrev pub Leaves : Option ℕ → ℕ → Type 0
Leaves None n = Unit {0}
Leaves (Some k) n = n < k

-- d is due from the start to the last day, and COUNT does not cut it off
pub record Meant (r : Rule) (d : ℕ) : Type 0 where
  pub from_start : r.choice.start ≤ d
  pub to_last : d < stop r.until
  pub due : DueIn r.choice.pattern r.choice.start d
  pub left : Leaves r.count (length (before d (days_of r.choice.pattern r.choice.start r.until None)))

-- the days of the list are the days that are meant
abbrev pub ListsMeant : Rule → Type 0
ListsMeant r = (d : ℕ) → (among d (days_in r) ≡ true → Meant r d) × (Meant r d → among d (days_in r) ≡ true)

-- ---- ordinals

-- the days from a on, before b, with the weekday of d
abbrev pub like_days : ℕ → ℕ → ℕ → ℕ
like_days d a b = length (span (λ k. nat_eq (k % 7) (d % 7)) a b)

-- a day is the nth of its weekday from the beginning of its month or year, and so from the end
abbrev pub Ordinals : Type 0
Ordinals = (month : Bool) (d : ℕ) → d < 109573
    → ((facts month d).nth ≡ like_days d (d - lead month d) (d + 1)) × ((facts month d).last ≡ like_days d d (d + rest month d + 1))
