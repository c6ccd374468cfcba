-- The first chosen day, without a pattern and with one.
use Rattle.std.proofs.Common.{◌≡◌, ℕ, ◌<◌, ◌≤◌, true, Some, None, Option, MatchOption, ◌∙◌, refl, arith}
use Rattle.std.proofs.lemmas.Bool.{eq-eqb, ne_eqb}
use Rattle.recurrence.specs.declared.parts.Pattern.{Pattern}
use Rattle.pattern.specs.Picks.{picks}
use Rattle.pattern.specs.First.{NoneIn, FirstIs, First}
use Rattle.pattern.specs.Asked.{Asked}
use Rattle.rule.specs.Lists.{chooses}
use Rattle.rule.specs.Bounds.{sound}
use Rattle.rule.specs.Tails.{once_at, every_is_at}
use Rattle.rule.proofs.Bounds.{sound_usable}

module _ (o : Option Pattern) (e : o ≡ None) (s a b : ℕ) where
  pub the_day : a ≤ s → s < b → FirstIs (chooses o s) a b s
  the_day h l = record {
    low = h;
    high = l;
    passed = λ k p q. once_at o e s k ∙ ne_eqb k s (λ z. omega arith);
    found = once_at o e s s ∙ eq-eqb s s refl;
  }

  pub no_day : (a ≤ s → s < b → ⊥) → NoneIn (chooses o s) a b
  no_day n = λ k p q. once_at o e s k ∙ ne_eqb k s (λ z. n (omega arith) (omega arith))

pub picked_day : (o : Option Pattern) (p : Pattern) → o ≡ Some p → (s a b : ℕ) (r : Option ℕ) → s < 109573 → sound o ≡ true → b ≤ 109573
    → MatchOption r (Asked p s a b → NoneIn (picks p s) a b) (λ d. Asked p s a b × FirstIs (picks p s) a b d) → First (chooses o s) a b r
picked_day o p e s a b None begun parts ended f =
    λ k g h. every_is_at o p e s k ∙ f (record { usable = sound_usable o p e parts; begun = begun; forward = omega arith; ended = ended }) k g h
picked_day o p e s a b (Some d) begun parts ended f =
    let x = f.1 in
    record {
      low = x.low;
      high = x.high;
      passed = λ k g h. every_is_at o p e s k ∙ x.passed k g h;
      found = every_is_at o p e s d ∙ x.found;
    }
