-- How many days a walk may give.
use Rattle.std.proofs.Common.{ℕ, ◌+◌, ◌<◌, ◌≤◌, nat_le, List, [], ◌∷◌, length, arith}
use Rattle.std.specs.List.{AllByRecursion}
use Rattle.std.proofs.ByRecursion.{All-weaker, all_kept_by}
use Rattle.source.specs.Days.{Ascending, since}
use Rattle.source.specs.Ascents.{kept_ascends}

-- the days of an ascending list from k on are no more than the calendar has
few_days : (k : ℕ) (xs : List ℕ) → Ascending xs → AllByRecursion (λ d. k ≤ d) xs → AllByRecursion (λ d. d ≤ 109572) xs → k ≤ 109573 → length xs + k ≤ 109573
few_days k [] a l b h = omega arith
few_days k (x ∷ xs) a l b h =
    let r = few_days (x + 1) xs a.1 (All-weaker (λ y. x < y) (λ y. x + 1 ≤ y) (λ y h. omega arith) xs a.0) b.1 (omega (arith, b.0)) in
    omega (arith, r, l.0)

all_from : (xs : List ℕ) → AllByRecursion (λ d. 0 ≤ d) xs
all_from [] = tt
all_from (x ∷ xs) = (omega arith, all_from xs)

pub few_since : (k : ℕ) (xs : List ℕ) → Ascending xs → AllByRecursion (λ d. d ≤ 109572) xs → length (since k xs) ≤ 109573
few_since k xs a b =
    let u = kept_ascends (λ d. nat_le k d) xs a in
    let v = all_kept_by (λ d. nat_le k d) (λ d. d ≤ 109572) xs b in
    let f = few_days 0 (since k xs) u (all_from (since k xs)) v (omega arith) in
    omega (arith, f)
