-- Climbing lists: their parts, and that they ascend within bounds.
use Rattle.std.specs.Prelude.{◌≡◌, ℕ, ◌+◌, ◌<◌, ◌≤◌, true, List, [], ◌∷◌, take, drop}
use Rattle.std.proofs.Common.{arith}
use Rattle.std.specs.List.{AllByRecursion}
use Rattle.std.proofs.ByRecursion.{All-weaker}
use Rattle.source.specs.Days.{Ascending}
use Rattle.bounded.specs.Climbing.{Climbs, climbs_first, climb_take, climb_drop}
use Rattle.dates.specs.Climbs.{climbs}

step : (n x : ℕ) (xs : List ℕ) → climbs n (x ∷ xs) ≡ true → Climbs (λ (d : ℕ). d) (λ _. true) n x xs
step n x xs h = climbs_first (λ (d : ℕ). d) (λ _. true) n x xs h

pub climbs_take : (n k : ℕ) (xs : List ℕ) → climbs n xs ≡ true → climbs n (take k xs) ≡ true
climbs_take n k xs h = climb_take (λ (d : ℕ). d) (λ _. true) n k xs h

pub climbs_drop : (n k : ℕ) (xs : List ℕ) → climbs n xs ≡ true → climbs 0 (drop k xs) ≡ true
climbs_drop n k xs h = climb_drop (λ (d : ℕ). d) (λ _. true) n k xs h

climbs_from : (n : ℕ) (xs : List ℕ) → climbs n xs ≡ true → AllByRecursion (λ y. n ≤ y) xs
climbs_from n [] h = tt
climbs_from n (x ∷ xs) h =
    let s = step n x xs h in
    (s.low, All-weaker (λ y. x + 1 ≤ y) (λ y. n ≤ y) (λ y l. omega (arith, s.low)) xs (climbs_from (x + 1) xs s.rest))

pub climbs_ascend : (n : ℕ) (xs : List ℕ) → climbs n xs ≡ true → Ascending xs
climbs_ascend n [] h = tt
climbs_ascend n (x ∷ xs) h =
    let s = step n x xs h in
    (All-weaker (λ y. x + 1 ≤ y) (λ y. x < y) (λ y l. omega arith) xs (climbs_from (x + 1) xs s.rest), climbs_ascend (x + 1) xs s.rest)

pub climbs_bounded : (n : ℕ) (xs : List ℕ) → climbs n xs ≡ true → AllByRecursion (λ y. y ≤ 109572) xs
climbs_bounded n [] h = tt
climbs_bounded n (x ∷ xs) h = let s = step n x xs h in (s.high, climbs_bounded (x + 1) xs s.rest)
