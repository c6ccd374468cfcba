-- The first of the days that pass a test.
use Rattle.std.specs.Prelude.{◌≡◌, ℕ, ◌<◌, ◌≤◌, Bool, true, false, Option, MatchOption}

-- no day from a on, before b, passes
abbrev pub NoneIn : (ℕ → Bool) → ℕ → ℕ → Type 0
NoneIn f a b = (k : ℕ) → a ≤ k → k < b → f k ≡ false

-- d is the first day from a on that passes, and lies before b
pub record FirstIs (f : ℕ → Bool) (a b d : ℕ) : Type 0 where
  pub low : a ≤ d
  pub high : d < b
  pub passed : NoneIn f a d
  pub found : f d ≡ true

abbrev pub First : (ℕ → Bool) → ℕ → ℕ → Option ℕ → Type 0
First f a b r = MatchOption r (NoneIn f a b) (λ d. FirstIs f a b d)
