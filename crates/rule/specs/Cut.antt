-- The parts of a rule after a cut.
use Rattle.std.specs.Prelude.{◌≡◌, ℕ, ◌+◌, min, cond, List, length, Some, None, Option, MatchOption, nat_le}
use Rattle.calendar.specs.Years.{last_day}
use Rattle.source.specs.Days.{first_from, before, since}
use Rattle.recurrence.specs.declared.parts.Pattern.{Pattern}
use Rattle.pattern.specs.Periods.{active}
use Rattle.rule.specs.Lists.{days_of}
use Rattle.rule.specs.declared.rules.Rule.{Rule}

abbrev pub days_in : Rule → List ℕ
days_in r = days_of r.choice.pattern r.choice.start r.until r.count

-- COUNT, if it is given, is the days left
abbrev pub recount : Option ℕ → List ℕ → Option ℕ
recount None xs = None
recount (Some k) xs = Some (length xs)

-- the last day is d - 1, if that is lower
abbrev pub lowered : Option ℕ → ℕ → Option ℕ
lowered None d = cond (nat_le d last_day) (Some d) None
lowered (Some u) d = Some (min u d)

-- a head without COUNT has its last day lowered
abbrev pub reuntil : Option ℕ → Option ℕ → ℕ → Option ℕ
reuntil (Some k) until d = until
reuntil None until d = lowered until d

-- the active periods of a cut are those of the whole
abbrev pub SamePeriods : Rule → Rule → Type 0
SamePeriods old new = (p : Pattern) → old.choice.pattern ≡ Some p → (k : ℕ) → active p new.choice.start k ≡ active p old.choice.start k

-- COUNT, if it is given, is the number of days
abbrev pub Counted : Rule → Type 0
Counted r = r.count ≡ recount r.count (days_in r)

pub record Head (d : ℕ) (old new : Rule) : Type 0 where
  pub days : days_in new ≡ before d (days_in old)
  pub pattern : new.choice.pattern ≡ old.choice.pattern
  pub start : new.choice.start ≡ old.choice.start
  pub until : new.until ≡ reuntil old.count old.until d
  pub count : new.count ≡ recount old.count (before d (days_in old))
  pub periods : SamePeriods old new
  pub counted : Counted new

-- a tail starts at its first day, and has COUNT 0 if it has none
pub record Tail (d : ℕ) (old new : Rule) : Type 0 where
  pub days : days_in new ≡ since d (days_in old)
  pub pattern : new.choice.pattern ≡ old.choice.pattern
  pub until : new.until ≡ old.until
  pub rest : MatchOption (first_from d (days_in old)) ((new.choice.start ≡ old.choice.start) × (new.count ≡ Some 0))
      (λ first. (new.choice.start ≡ first) × (new.count ≡ recount old.count (since d (days_in old))))
  pub periods : SamePeriods old new
  pub counted : Counted new
  pub lengths : length (days_in old) ≡ length (before d (days_in old)) + length (days_in new)
