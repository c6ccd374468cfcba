-- The days that a date list can hold.
use Rattle.std.specs.Prelude.{ℕ, Bool, true, ◌&&◌, List, length, nat_le}
use Rattle.bounded.specs.Climbing.{climbing}

-- the first day is at least so much, each other comes after the one before it, and none is past the last day
abbrev pub climbs : ℕ → List ℕ → Bool
climbs = climbing (λ d. d) (λ _. true)

abbrev pub holdable : List ℕ → Bool
holdable xs = nat_le (length xs) 24 && climbs 0 xs
