-- The parts of a rule as a recurrence, of which it can be made again.
use Rattle.std.specs.Prelude.{◌≡◌, ℕ, List, ◌∷◌, Some, None, Option}
use Rattle.recurrence.specs.declared.parts.Recurrence.{Recurrence}
use Rattle.recurrence.specs.declared.parts.Pattern.{Pattern}
use Rattle.rule.specs.declared.rules.Rule.{Rule}
use Rattle.rule.specs.Cut.{days_in}
use Rattle.rule.specs.Refused.{list_of, refusal}

abbrev pub recurrence_by : Option Pattern → Option ℕ → Option ℕ → Option Recurrence
recurrence_by None count until = None
recurrence_by (Some p) count until = Some (record { pattern = p; count = count; until = until })

abbrev pub recurrence_in : Rule → Option Recurrence
recurrence_in r = recurrence_by r.choice.pattern r.count r.until

-- the first day of a rule that has days is its start; start and recurrence are not refused, and mean the same days
pub record Remade (r : Rule) (x : ℕ) : Type 0 where
  pub first : x ≡ r.choice.start
  pub accepted : refusal r.choice.start (recurrence_in r) ≡ None
  pub same : list_of r.choice.start (recurrence_in r) ≡ days_in r

abbrev pub Remakes : Rule → Type 0
Remakes r = (x : ℕ) (xs : List ℕ) → days_in r ≡ x ∷ xs → Remade r x
