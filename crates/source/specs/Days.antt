-- Ascending lists of days, and their parts before and from a day on.
use Rattle.std.specs.Prelude.{ℕ, ◌<◌, Bool, true, false, ◌||◌, List, [], ◌∷◌, Some, None, filter, Option, ◌==◌, nat_le, nat_lt}
use Rattle.std.specs.List.{AllByRecursion}

-- each day lies before all that follow it
abbrev pub Ascending : List ℕ → Type 0
Ascending [] = Unit {0}
Ascending (x ∷ xs) = AllByRecursion (λ y. x < y) xs × Ascending xs

-- the days before d
abbrev pub before : ℕ → List ℕ → List ℕ
before d xs = filter (λ x. nat_lt x d) xs

-- the days from d on
abbrev pub since : ℕ → List ℕ → List ℕ
since d xs = filter (λ x. nat_le d x) xs

abbrev pub head_of : List ℕ → Option ℕ
head_of [] = None
head_of (x ∷ xs) = Some x

-- the first day at or after d
abbrev pub first_from : ℕ → List ℕ → Option ℕ
first_from d xs = head_of (since d xs)

-- whether d is one of the days
abbrev pub among : ℕ → List ℕ → Bool
among d [] = false
among d (x ∷ xs) = d == x || among d xs

abbrev pub no_days : List ℕ → Bool
no_days [] = true
no_days (x ∷ xs) = false
