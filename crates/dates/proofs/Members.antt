-- The days of an ascending list tell it, and those of two lists joined are the days of both.
use Rattle.std.proofs.Common.{◌≡◌, ℕ, ◌<◌, Bool, true, false, ◌||◌, eqb, List, [], ◌∷◌, sym, refl, ap, ◌∙◌, ⊎_elim, arith}
use Rattle.std.specs.List.{AllByRecursion}
use Rattle.std.proofs.ByRecursion.{All-weaker}
use Rattle.std.proofs.lemmas.Bool.{both_ways, cases_order, eq-eqb, ne_eqb}
use Rattle.std.proofs.lemmas.Bool.Decides.{eqb_tells}
use Rattle.source.specs.Days.{Ascending, among, before, since, first_from}
use Rattle.dates.specs.declared.dates.DateList.{DateList}
use Rattle.dates.specs.Climbing.{climbs_ascend}
use Rattle.dates.specs.Dates.{date_days}
use Rattle.dates.specs.Unions.{slot, merged, sooner, BothSides}
use Rattle.dates.specs.Merges.{slot_after, slot_at, slot_first, merged_ascends, both_sides}

none_among : (d : ℕ) (xs : List ℕ) → AllByRecursion (λ y. d < y) xs → among d xs ≡ false
none_among d [] a = refl
none_among d (x ∷ xs) a = rw (ne_eqb d x (omega (arith, a.0))) (none_among d xs a.1)

first_among : (x : ℕ) (xs : List ℕ) → among x (x ∷ xs) ≡ true
first_among x xs = rw (eq-eqb x x refl)

-- a day before a list's first is not among it
early : (d y : ℕ) (ys : List ℕ) → Ascending (y ∷ ys) → d < y → among d (y ∷ ys) ≡ false
early d y ys a l = none_among d (y ∷ ys) (l, All-weaker (λ z. y < z) (λ z. d < z) (λ z h. omega arith) ys a.0)

pub same_days : (xs ys : List ℕ) → Ascending xs → Ascending ys → ((d : ℕ) → among d xs ≡ among d ys) → xs ≡ ys
same_days [] [] a b h = refl
same_days [] (y ∷ ys) a b h = absurd (both_ways (among y (y ∷ ys)) (sym (h y)) (first_among y ys))
same_days (x ∷ xs) [] a b h = absurd (both_ways (among x (x ∷ xs)) (h x) (first_among x xs))
same_days (x ∷ xs) (y ∷ ys) a b h =
    ⊎_elim
    (λ (e : x ≡ y).
    let rest : xs ≡ ys =
    same_days xs ys a.1 b.1
    (λ d.
    ⊎_elim
    (λ t.
    none_among d xs (All-weaker (λ z. x < z) (λ z. d < z) (λ z l. omega (arith, t.1)) xs a.0)
    ∙ sym (none_among d ys (All-weaker (λ z. y < z) (λ z. d < z) (λ z l. omega (arith, t.1)) ys b.0)))
    (λ f. rw (f.0, ne_eqb d y (omega (arith, f.1))) at (h d))
    (eqb_tells d x)) in
    cc)
    (⊎_elim
    (λ (l : x < y). absurd (both_ways (among x (x ∷ xs)) (h x ∙ early x y ys b l) (first_among x xs)))
    (λ (g : y < x). absurd (both_ways (among y (y ∷ ys)) (sym (h y) ∙ early y x xs a g) (first_among y ys))))
    (cases_order x y)

or_swap : (a b c : Bool) → (a || (b || c)) ≡ (b || (a || c))
or_swap true true c = refl
or_swap true false c = refl
or_swap false true c = refl
or_swap false false c = refl

or_again : (a c : Bool) → (a || c) ≡ (a || (a || c))
or_again true c = refl
or_again false c = refl

or_none : (a : Bool) → a ≡ (a || false)
or_none true = refl
or_none false = refl

among_slot : (d y : ℕ) (xs : List ℕ) → among d (slot y xs) ≡ (eqb d y || among d xs)
among_slot d y [] = refl
among_slot d y (x ∷ xs) =
    ⊎_elim (λ (e : x ≡ y). ap (among d) (slot_at y x xs e) ∙ or_again (eqb d x) (among d xs) ∙ ap (λ z. eqb d z || (eqb d x || among d xs)) e)
    (⊎_elim
    (λ (l : x < y). ap (among d) (slot_after y x xs l) ∙ ap (λ b. eqb d x || b) (among_slot d y xs) ∙ or_swap (eqb d x) (eqb d y) (among d xs))
    (λ (g : y < x). ap (among d) (slot_first y x xs g)))
    (cases_order x y)

pub among_merged : (d : ℕ) (xs ys : List ℕ) → among d (merged xs ys) ≡ (among d xs || among d ys)
among_merged d xs [] = or_none (among d xs)
among_merged d xs (y ∷ ys) =
    among_slot d y (merged xs ys) ∙ ap (λ b. eqb d y || b) (among_merged d xs ys) ∙ or_swap (eqb d y) (among d xs) (among d ys)

pub joined_alone : (xs ys : List ℕ) → Ascending xs → (zs : List ℕ) → Ascending zs → ((d : ℕ) → among d zs ≡ (among d xs || among d ys)) → zs ≡ merged xs ys
joined_alone xs ys a zs b h = same_days zs (merged xs ys) b (merged_ascends xs ys a) (λ d. h d ∙ sym (among_merged d xs ys))

-- what is asked of a union is asked of both of its sides
module _ (xs : List ℕ) (l : DateList) (a : Ascending xs) (d : ℕ) where
  sides : BothSides xs (date_days l)
  sides = both_sides xs (date_days l) a (climbs_ascend 0 (date_days l) l.days.sound)

  pub union_first : first_from d (merged xs (date_days l)) ≡ sooner (first_from d xs) (first_from d (date_days l))
  union_first = sides.first d

  pub union_head : before d (merged xs (date_days l)) ≡ merged (before d xs) (before d (date_days l))
  union_head = sides.head d

  pub union_tail : since d (merged xs (date_days l)) ≡ merged (since d xs) (since d (date_days l))
  union_tail = sides.tail d
