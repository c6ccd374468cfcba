-- The list of a rule's days.
use Rattle.std.specs.Prelude.{ℕ, Bool, List, Some, None, Option, ◌==◌}
use Rattle.recurrence.specs.declared.parts.Pattern.{Pattern}
use Rattle.rule.specs.Spans.{span, limited, stop}
use Rattle.pattern.specs.Picks.{picks}

-- without a pattern the start is the only day
unfoldable pub chooses : Option Pattern → ℕ → ℕ → Bool
chooses None start d = d == start
chooses (Some p) start d = picks p start d

-- the days chosen from the start to the last day, of these the first COUNT
abbrev pub days_of : Option Pattern → ℕ → Option ℕ → Option ℕ → List ℕ
days_of p start until count = limited count (span (chooses p start) start (stop until))
