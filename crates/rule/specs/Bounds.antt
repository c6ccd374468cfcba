-- The bounds of a rule's parts.
use Rattle.std.specs.Prelude.{ℕ, Bool, true, ◌&&◌, Some, None, Option, ◌==◌, nat_le}
use Rattle.recurrence.specs.declared.parts.Pattern.{Pattern}
use Rattle.recurrence.specs.Bounds.{pattern_fits, suits}

-- a pattern that a rule may have
unfoldable pub sound : Option Pattern → Bool
sound None = true
sound (Some p) = pattern_fits p && suits p.frequency p.month_days p.week_days

-- COUNT after any cut
abbrev pub count_fits : Option ℕ → Bool
count_fits None = true
count_fits (Some k) = nat_le k 10000

-- no COUNT beside a last day, but for the COUNT 0 of a tail without days
abbrev pub one_end : Option ℕ → Option ℕ → Bool
one_end None count = true
one_end (Some day) None = true
one_end (Some day) (Some k) = k == 0
