-- The least of a set of starts and days, from a key on and before an end.
use Rattle.std.specs.Prelude.{ℕ, ◌+◌, ◌*◌, ◌<◌, ◌≤◌, Some, None, Option}
use Rattle.upcoming.specs.declared.keys.Key.{Key}

-- (start, day) in dictionary order, as one number: a day is below 2 ^ 32
abbrev pub rank : ℕ → ℕ → ℕ
rank s d = s * 4294967296 + d

pub record Least (P : ℕ → ℕ → Type 0) (s d end x y : ℕ) : Type 0 where
  pub holds : P x y
  pub reached : rank s d ≤ rank x y
  pub within : x < end
  pub least : (z w : ℕ) → P z w → rank s d ≤ rank z w → z < end → rank x y ≤ rank z w

abbrev pub NoneIn : (ℕ → ℕ → Type 0) → ℕ → ℕ → ℕ → Type 0
NoneIn P s d end = (z w : ℕ) → P z w → rank s d ≤ rank z w → z < end → ⊥

-- r is the least of P from (s, d) on and before end
abbrev pub Next : (ℕ → ℕ → Type 0) → ℕ → ℕ → ℕ → Option Key → Type 0
Next P s d end None = NoneIn P s d end
Next P s d end (Some k) = Least P s d end k.start k.day
