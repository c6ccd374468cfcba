-- What a start and a recurrence are refused for, and the rule that is made of them.
use Rattle.std.specs.Prelude.{◌≡◌, ℕ, Bool, true, cond, not, ◌&&◌, ◌||◌, List, is_some, Some, None, Ok, Err, Option, Result, nat_eq, nat_le}
use Rattle.std.specs.List.{list_any}
use Rattle.calendar.specs.Years.{last_day}
use Rattle.refusal.specs.declared.Refusal.{Refusal}
use Rattle.refusal.specs.declared.Refusal.TheVariants.{OutOfBounds, RuleConflict, StartNotPicked}
use Rattle.recurrence.specs.declared.parts.Recurrence.{Recurrence}
use Rattle.recurrence.specs.declared.parts.Pattern.{Pattern}
use Rattle.rule.specs.declared.rules.Rule.{Rule}
use Rattle.rule.specs.Lists.{days_of}
use Rattle.recurrence.specs.Bounds.{within, pattern_fits, suits}
use Rattle.rule.specs.Cut.{days_in}

-- ---- the parts of a recurrence, if there is one

abbrev pub pattern_of : Option Recurrence → Option Pattern
pattern_of None = None
pattern_of (Some r) = Some r.pattern

abbrev pub until_of : Option Recurrence → Option ℕ
until_of None = None
until_of (Some r) = r.until

abbrev pub count_of : Option Recurrence → Option ℕ
count_of None = None
count_of (Some r) = r.count

-- the days that a start and a recurrence mean
abbrev pub list_of : ℕ → Option Recurrence → List ℕ
list_of start r = days_of (pattern_of r) start (until_of r) (count_of r)

-- ---- refusals, the first that applies

abbrev pub pattern_bounds : Option Pattern → Bool
pattern_bounds None = true
pattern_bounds (Some p) = pattern_fits p

abbrev pub count_bounds : Option ℕ → Bool
count_bounds None = true
count_bounds (Some k) = within 1 10000 k

abbrev pub in_bounds : ℕ → Option Recurrence → Bool
in_bounds start r = nat_le start last_day && (pattern_bounds (pattern_of r) && count_bounds (count_of r))

abbrev pub pattern_suits : Option Pattern → Bool
pattern_suits None = true
pattern_suits (Some p) = suits p.frequency p.month_days p.week_days

abbrev pub conflict : Option Recurrence → Bool
conflict r = not (pattern_suits (pattern_of r)) || (is_some (count_of r) && is_some (until_of r))

unfoldable pub among : ℕ → List ℕ → Bool
among d xs = list_any (λ x. nat_eq x d) xs

abbrev pub first_refusal : Bool → Bool → Bool → Option Refusal
first_refusal bounds clash picked = cond bounds (cond clash (Some RuleConflict) (cond picked None (Some StartNotPicked))) (Some OutOfBounds)

unfoldable pub refusal : ℕ → Option Recurrence → Option Refusal
refusal start r = first_refusal (in_bounds start r) (conflict r) (among start (list_of start r))

-- ---- what is made

pub record Made (start : ℕ) (r : Option Recurrence) (rule : Rule) : Type 0 where
  pub pattern : rule.choice.pattern ≡ pattern_of r
  pub start_is : rule.choice.start ≡ start
  pub until : rule.until ≡ until_of r
  pub count : rule.count ≡ count_of r
  pub days : days_in rule ≡ list_of start r

-- a rule just where nothing is refused
abbrev pub MakesRule : ℕ → Option Recurrence → Result Rule Refusal → Type 0
MakesRule start r (Ok rule) = (refusal start r ≡ None) × Made start r rule
MakesRule start r (Err e) = refusal start r ≡ Some e
