-- A rule from one of its days on chooses what it chose before.
use Rattle.std.specs.Prelude.{◌≡◌, ℕ, true, Some, None, Option, ◌==◌, nat_eq}
use Rattle.std.proofs.Common.{sym, ap, ◌∙◌}
use Rattle.std.proofs.lemmas.Bool.{eqb-true, and_parts}
use Rattle.recurrence.specs.declared.parts.Pattern.{Pattern}
use Rattle.pattern.specs.Periods.{active}
use Rattle.pattern.specs.Picks.{picked, picks}
use Rattle.pattern.proofs.Moves.{active_moved, picks_moved}
use Rattle.rule.specs.Lists.{chooses}

pub moved : (p : Option Pattern) (s t : ℕ) → chooses p s t ≡ true → (d : ℕ) → chooses p t d ≡ chooses p s d
unfolding chooses
moved None s t h d = ap (nat_eq d) (eqb-true t s h)
moved (Some p) s t h d = picks_moved p s t h d

pub once_at : (p : Option Pattern) → p ≡ None → (s k : ℕ) → chooses p s k ≡ (k == s)
unfolding chooses
once_at p e s k = ap (λ x. chooses x s k) e

pub every_is_at : (p : Option Pattern) (q : Pattern) → p ≡ Some q → (s k : ℕ) → chooses p s k ≡ picks q s k
unfolding chooses
every_is_at p q e s k = ap (λ x. chooses x s k) e

-- from one of its days on a rule has the periods that it had
pub periods_kept : (o : Option Pattern) (s t : ℕ) → chooses o s t ≡ true → (p : Pattern) → o ≡ Some p → (k : ℕ) → active p t k ≡ active p s k
unfolding picks
periods_kept o s t h p e k = active_moved p s t (and_parts (active p s t) (picked p s t) (sym (every_is_at o p e s t) ∙ h)).0 k
