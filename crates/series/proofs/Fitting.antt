-- Overrides that fit a map: they rise, and each is what the map says of its day.
use Rattle.std.proofs.Common.{◌≡◌, ℕ, zero, suc, ◌+◌, ◌<◌, ◌≤◌, true, List, [], ◌∷◌, length, get_or, Ok, Err, Result, MatchResult, refl, arith}
use Rattle.std.proofs.lemmas.Bool.{eq-eqb, ne_eqb}
use Rattle.series.specs.declared.changes.Override.{Override}
use Rattle.std.specs.Result.{result_ok}
use Rattle.bounded.specs.Climbing.{Climbs, climbs_first, climb_from, climb_rises}
use Rattle.lookup.specs.Places.{Present, Absent}
use Rattle.series.specs.Marks.{plain, mark_of, mark_on, change_fits, overrides_fit, Place}

-- what it says of the first that overrides fit
pub fits : (n : ℕ) (o : Override) (os : List Override) → overrides_fit n (o ∷ os) ≡ true → Climbs (λ (o : Override). o.day) (λ o. change_fits o.change) n o os
fits n o os h = climbs_first (λ (o : Override). o.day) (λ o. change_fits o.change) n o os h

-- each has a later day than those before it
pub fit_rises : (n : ℕ) (os : List Override) → overrides_fit n os ≡ true → (i j : ℕ) (o : Override) → i < j → j < length os → (get_or os i o).day < (get_or os j o).day
fit_rises n os h i j o p q = climb_rises (λ (o : Override). o.day) (λ o. change_fits o.change) n os h i j o p q

-- the override at a place is what the map says of its day
pub mark_is_at : (n : ℕ) (os : List Override) → overrides_fit n os ≡ true → (i d : ℕ) (o : Override) → i < length os → (get_or os i o).day ≡ d → mark_of (get_or os i o).change ≡ mark_on os d
mark_is_at n [] h i d o l e = absurd (omega arith)
mark_is_at n (x ∷ xs) h zero d o l e = rw (eq-eqb x.day d e)
mark_is_at n (x ∷ xs) h (suc i) d o l e =
    let f = (fits n x xs h).rest in
    let k : x.day + 1 ≤ (get_or xs i o).day = climb_from (λ (o : Override). o.day) (λ o. change_fits o.change) (x.day + 1) xs f i o (omega arith) in
    rw (ne_eqb x.day d (omega arith)) (mark_is_at (x.day + 1) xs f i d o (omega arith) e)

-- and where none has the day, the day is plain
pub mark_none : (os : List Override) (d : ℕ) → ((j : ℕ) (o : Override) → j < length os → (get_or os j o).day ≡ d → ⊥) → mark_on os d ≡ plain
mark_none [] d h = refl
mark_none (x ∷ xs) d h = rw (ne_eqb x.day d (h 0 x (omega arith))) (mark_none xs d (λ j o l. h (suc j) o (omega arith)))

-- what the search answers of the overrides, as a place
pub place_found : (os : List Override) (d : ℕ) (r : Result ℕ ℕ) → overrides_fit 0 os ≡ true → MatchResult r (λ i. Present (λ (a : Override) k. a.day ≡ k) os d i) (λ i. Absent (λ (a : Override) k. a.day < k) (λ a k. a.day ≡ k) (λ a k. k < a.day) os d i) → Place os d (result_ok r)
place_found os d (Ok i) fit p = record { within = p.within; says = λ o. mark_is_at 0 os fit i d o p.within (p.there o) }
place_found os d (Err i) fit p = mark_none os d p.none
