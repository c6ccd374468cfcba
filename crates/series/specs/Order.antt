-- The order of UIDs: octet by octet, a proper beginning first.
use Rattle.std.specs.Prelude.{◌≡◌, ℕ, ◌<◌, Bool, true, false, ◌&&◌, ◌||◌, ◌⊎◌, List, [], ◌∷◌, ◌==◌, nat_lt}

abbrev pub Ahead : List ℕ → List ℕ → Type 0
Ahead [] [] = ⊥
Ahead [] (y ∷ ys) = Unit {0}
Ahead (x ∷ xs) [] = ⊥
Ahead (x ∷ xs) (y ∷ ys) = (x < y) ⊎ ((x ≡ y) × Ahead xs ys)

-- the same as a test
unfoldable pub precedes : List ℕ → List ℕ → Bool
precedes [] [] = false
precedes [] (y ∷ ys) = true
precedes (x ∷ xs) [] = false
precedes (x ∷ xs) (y ∷ ys) = nat_lt x y || (x == y && precedes xs ys)
