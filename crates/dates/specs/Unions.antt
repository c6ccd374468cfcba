-- Two lists of days joined into one.
use Rattle.std.specs.Prelude.{◌≡◌, ℕ, min, cond, ◌||◌, List, [], ◌∷◌, Some, None, Option, ◌==◌, nat_lt}
use Rattle.source.specs.Days.{Ascending, before, since, first_from, among}

-- an ascending list with y in its place, once
abbrev pub slot : ℕ → List ℕ → List ℕ
slot y [] = y ∷ []
slot y (x ∷ xs) = cond (nat_lt x y) (x ∷ slot y xs) (cond (x == y) (x ∷ xs) (y ∷ x ∷ xs))

-- the days of both, each once
abbrev pub merged : List ℕ → List ℕ → List ℕ
merged xs [] = xs
merged xs (y ∷ ys) = slot y (merged xs ys)

abbrev pub sooner : Option ℕ → Option ℕ → Option ℕ
sooner None b = b
sooner (Some x) None = Some x
sooner (Some x) (Some y) = Some (min x y)

-- what is asked of the joined list is asked of both
pub record BothSides (xs ys : List ℕ) : Type 0 where
  pub first : (d : ℕ) → first_from d (merged xs ys) ≡ sooner (first_from d xs) (first_from d ys)
  pub head : (d : ℕ) → before d (merged xs ys) ≡ merged (before d xs) (before d ys)
  pub tail : (d : ℕ) → since d (merged xs ys) ≡ merged (since d xs) (since d ys)

-- zs has the days of both and no other; only one ascending list has
pub record Joined (xs ys zs : List ℕ) : Type 0 where
  pub days : (d : ℕ) → among d zs ≡ (among d xs || among d ys)
  pub alone : (other : List ℕ) → Ascending other → ((d : ℕ) → among d other ≡ (among d xs || among d ys)) → other ≡ zs
