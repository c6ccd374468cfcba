-- Where a key stands among others, or would stand.
use Rattle.std.specs.Prelude.{◌≡◌, ℕ, zero, suc, List, [], ◌∷◌}
use Rattle.std.specs.List.{AllByRecursion}
use Rattle.series.specs.Order.{Ahead}

-- the key stands at i
abbrev pub Seat : List (List ℕ) → List ℕ → ℕ → Type 0
Seat [] u i = ⊥
Seat (k ∷ ks) u zero = k ≡ u
Seat (k ∷ ks) u (suc i) = Seat ks u i

-- the key does not stand there: i of the keys come before it, and all others after it
abbrev pub Gap : List (List ℕ) → List ℕ → ℕ → Type 0
Gap ks u zero = AllByRecursion (Ahead u) ks
Gap [] u (suc i) = ⊥
Gap (k ∷ ks) u (suc i) = Ahead k u × Gap ks u i
