-- That rows ascend, as a test.
use Rattle.std.specs.Prelude.{ℕ, Bool, true, ◌&&◌, List, [], ◌∷◌}
use Rattle.series.specs.Order.{precedes}
use Rattle.store.specs.declared.pairs.Pair.{Pair}
use Rattle.store.specs.Pairs.{key}

module _ {S : Type 0} where
  -- the key comes before those of all rows
  unfoldable pub leads : List ℕ → List (Pair S) → Bool
  leads u [] = true
  leads u (p ∷ ps) = precedes u (key p) && leads u ps

  unfoldable pub climbs : List (Pair S) → Bool
  climbs [] = true
  climbs (p ∷ ps) = leads (key p) ps && climbs ps
