-- The rows of the months' lengths.
use Rattle.std.proofs.Common.{◌≡◌, ℕ, zero, suc, ◌+◌, ◌<◌, ◌≤◌, Bool, true, false, ◌&&◌, eqb, List, [], ◌∷◌, length, get_or, sum, take, refl, arith}
use Rattle.std.proofs.lemmas.Bool.{and_parts, eqb-true}
use Rattle.std.proofs.lemmas.List.Sums.{sum_by_more}
use mir.Val.{bool_byte}
use Rattle.calendar.specs.Months.{month_length, before}

-- the list is f at i, i + 1, ..
abbrev follows : (ℕ → ℕ) → ℕ → List ℕ → Bool
follows f i [] = true
follows f i (x ∷ xs) = eqb x (f i) && follows f (suc i) xs

at : (f : ℕ → ℕ) (xs : List ℕ) (i : ℕ) → follows f i xs ≡ true → (k : ℕ) → k < length xs → get_or xs k 0 ≡ f (i + k)
at f [] i t k h = absurd (omega arith)
at f (x ∷ xs) i t zero h =
    let e : i + 0 ≡ i = omega arith in
    rw e (eqb-true x (f i) (and_parts (eqb x (f i)) (follows f (suc i) xs) t).0)
at f (x ∷ xs) i t (suc k) h =
    let e : i + suc k ≡ suc i + k = omega arith in
    rw e (at f xs (suc i) (and_parts (eqb x (f i)) (follows f (suc i) xs) t).1 k (omega arith))

common : List ℕ
common = 31 ∷ 28 ∷ 31 ∷ 30 ∷ 31 ∷ 30 ∷ 31 ∷ 31 ∷ 30 ∷ 31 ∷ 30 ∷ 31 ∷ []

leaping : List ℕ
leaping = 31 ∷ 29 ∷ 31 ∷ 30 ∷ 31 ∷ 30 ∷ 31 ∷ 31 ∷ 30 ∷ 31 ∷ 30 ∷ 31 ∷ []

unfoldable pub rows : List (List ℕ)
unfolding common leaping
rows = common ∷ leaping ∷ []

abbrev row_of : Bool → List ℕ
row_of leap = get_or rows (bool_byte leap) []

pub row : (leap : Bool) (k : ℕ) → k < 12 → get_or (row_of leap) k 0 ≡ month_length leap (1 + k)
unfolding common leaping rows month_length
row true k h = at (month_length true) leaping 1 refl k h
row false k h = at (month_length false) common 1 refl k h

row_long : (leap : Bool) → length (row_of leap) ≡ 12
unfolding common leaping rows
row_long true = refl
row_long false = refl

-- the sum of a row's first lengths
pub row_sum : (leap : Bool) (k : ℕ) → k ≤ 12 → sum (take k (row_of leap)) ≡ before leap k
unfolding before
row_sum leap zero h = refl
row_sum leap (suc k) h =
    let e : k + 1 ≡ suc k = omega arith in
    let l = row_long leap in
    let s : sum (take (suc k) (row_of leap)) ≡ sum (take k (row_of leap)) + get_or (row_of leap) k 0 = rw e at (sum_by_more (λ x. x) (row_of leap) k 0 (omega (arith, l))) in
    let o : 1 + k ≡ suc k = omega arith in
    let r : get_or (row_of leap) k 0 ≡ month_length leap (suc k) = rw o at (row leap k (omega arith)) in
    omega (arith, s, r, row_sum leap k (omega arith))
