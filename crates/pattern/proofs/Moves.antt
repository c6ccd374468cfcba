-- A pattern from one of its days on picks what it picked before.
use Rattle.std.proofs.Common.{◌≡◌, ℕ, ◌%◌, Bool, true, false, ◌&&◌, ◌||◌, eqb, refl, ap}
use Rattle.std.proofs.lemmas.Bool.{eqb-true, and_parts}
use Rattle.calendar.specs.Dates.{month_of, month_day}
use Rattle.recurrence.specs.declared.parts.Frequency.{Frequency}
use Rattle.recurrence.specs.declared.parts.Frequency.TheVariants.{Daily, Weekly, Monthly, Yearly}
use Rattle.recurrence.specs.declared.parts.Pattern.{Pattern}
use Rattle.recurrence.specs.Entries.{given}
use Rattle.pattern.specs.Periods.{period_in, active}
use Rattle.pattern.specs.Picks.{in_month, facts, listed, implied, picked, picks}

same_or : (g x y : Bool) → (g ≡ false → x ≡ y) → (g || x) ≡ (g || y)
same_or true x y h = refl
same_or false x y h = h refl

then_or : (g x : Bool) → (g || x) ≡ true → g ≡ false → x ≡ true
then_or true x t f = let z : true ≡ false = f in cc
then_or false x t f = t

pub active_moved : (p : Pattern) (s t : ℕ) → active p s t ≡ true → (d : ℕ) → active p t d ≡ active p s d
active_moved p s t h d =
    ap (eqb (period_in p d % p.interval)) (eqb-true (period_in p t % p.interval) (period_in p s % p.interval) h)

implied_moved : (f : Frequency) (m : Bool) (s t : ℕ) → implied f m s t ≡ true → (d : ℕ) → implied f m t d ≡ implied f m s d
implied_moved Daily m s t h d = refl
implied_moved Weekly m s t h d = ap (eqb (d % 7)) (eqb-true (t % 7) (s % 7) h)
implied_moved Monthly m s t h d = ap (eqb (month_day d)) (eqb-true (month_day t) (month_day s) h)
implied_moved Yearly m s t h d =
    let both = and_parts (eqb (month_day t) (month_day s)) (m || eqb (month_of t) (month_of s)) h in
    let e : month_day t ≡ month_day s = eqb-true (month_day t) (month_day s) both.0 in
    let o : (m || eqb (month_of d) (month_of t)) ≡ (m || eqb (month_of d) (month_of s)) =
    same_or m _ _ (λ g. ap (eqb (month_of d)) (eqb-true (month_of t) (month_of s) (then_or m _ both.1 g))) in
    rw (e, o)

picked_moved : (p : Pattern) (s t : ℕ) → picked p s t ≡ true → (d : ℕ) → picked p t d ≡ picked p s d
picked_moved p s t h d =
    let g = given p.month_days || given p.week_days in
    let m = given p.months in
    let both = and_parts (listed p (facts (in_month p.frequency (given p.months)) t)) _ h in
    ap (λ x. listed p (facts (in_month p.frequency (given p.months)) d) && x)
    (same_or (given p.month_days || given p.week_days) _ _
    (λ n. implied_moved p.frequency (given p.months) s t (then_or _ _ both.1 n) d))

pub picks_moved : (p : Pattern) (s t : ℕ) → picks p s t ≡ true → (d : ℕ) → picks p t d ≡ picks p s d
unfolding picks
picks_moved p s t h d =
    let both = and_parts (active p s t) (picked p s t) h in
    rw (active_moved p s t both.0 d, picked_moved p s t both.1 d)
