-- What the bounds of a rule give.
use Rattle.std.proofs.Common.{◌≡◌, ℕ, ◌≤◌, true, ◌&&◌, Some, None, Option, subst, arith}
use Rattle.std.proofs.lemmas.Bool.{and_parts}
use Rattle.recurrence.specs.declared.parts.Pattern.{Pattern}
use Rattle.recurrence.specs.Bounds.{pattern_fits, suits}
use Rattle.pattern.specs.Asked.{Usable}
use Rattle.pattern.proofs.Bounds.{fits_usable}
use Rattle.rule.specs.Spans.{stop}
use Rattle.rule.specs.Bounds.{sound}

pub sound_usable : (o : Option Pattern) (p : Pattern) → o ≡ Some p → sound o ≡ true → Usable p
unfolding sound
sound_usable o p e t =
    let u : (pattern_fits p && suits p.frequency p.month_days p.week_days) ≡ true = subst (λ (x : Option Pattern). sound x ≡ true) e t in
    fits_usable p (and_parts (pattern_fits p) _ u).0

pub stop_low : (u : Option ℕ) → stop u ≤ 109573
stop_low None = omega arith
stop_low (Some d) = omega arith
