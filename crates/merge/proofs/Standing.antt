-- No day that a store shows is past the last.
use Rattle.std.proofs.Common.{ℕ, ◌≤◌, List, Some, None, Option}
use Rattle.std.specs.List.{AllByRecursion}
use Rattle.history.proofs.Members.{all_mem}
use Rattle.store.specs.declared.pairs.Pair.{Pair}
use Rattle.store.specs.Pairs.{pair_at}
use Rattle.merge.specs.Places.{ShowsBy, ShowsAt}

module _ {S : Type 0} (days : S → List ℕ) (bounded : (s : S) → AllByRecursion (λ d. d ≤ 109572) (days s)) where
  near_by : (o : Option (Pair S)) (s d : ℕ) → ShowsBy days o s d → d ≤ 109572
  near_by None s d h = absurd h
  near_by (Some q) s d h = all_mem (λ d. d ≤ 109572) d (days q.series.repeats.source) (bounded q.series.repeats.source) h.among

  -- no day shown is past the last
  pub near : (ps : List (Pair S)) (p s d : ℕ) → ShowsAt days ps p s d → d ≤ 109572
  near ps p s d h = near_by (pair_at ps p) s d h
