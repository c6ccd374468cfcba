-- Where a number cuts an ascending list, by places.
use Rattle.std.proofs.Common.{◌≡◌, ℕ, zero, suc, true, ◌<◌, ◌≤◌, List, [], ◌∷◌, length, get_or, take, drop, sym, refl, ap, ◌∙◌, ⊎_elim, arith}
use Rattle.std.proofs.lemmas.List.{drop_more, drop_all}
use Rattle.std.proofs.lemmas.Bool.{cases_lt, lt-ltb, le-ltb, lt-leb}
use Rattle.lookup.specs.Places.{Present, Absent}
use Rattle.source.specs.Days.{Ascending, before, since, head_of}
use Rattle.dates.specs.declared.dates.DateList.{DateList}
use Rattle.dates.specs.Dates.{date_days, Split}
use Rattle.source.specs.Ascents.{before_none, since_whole, from_first}
use Rattle.bounded.specs.Climbing.{climb_rises}
use Rattle.dates.specs.Climbs.{climbs}
use Rattle.dates.specs.Climbing.{climbs_ascend}

pub days_rise : (xs : List ℕ) → climbs 0 xs ≡ true → (i j d : ℕ) → i < j → j < length xs → get_or xs i d < get_or xs j d
days_rise xs h i j d p q = climb_rises (λ (d : ℕ). d) (λ _. true) 0 xs h i j d p q

-- the first n lie before d, and no other
pub record Parted (xs : List ℕ) (d n : ℕ) : Type 0 where
  pub within : n ≤ length xs
  pub under : (j : ℕ) → j < n → get_or xs j 0 < d
  pub over : n < length xs → d ≤ get_or xs n 0

pub part_present : (xs : List ℕ) (d n : ℕ) → climbs 0 xs ≡ true → Present (λ a k. a ≡ k) xs d n → Parted xs d n
part_present xs d n h p = record {
  within = omega (arith, p.within);
  under = λ j l. omega (arith, p.there 0, days_rise xs h j n 0 l p.within);
  over = λ l. omega (arith, p.there 0);
}

pub part_absent : (xs : List ℕ) (d n : ℕ) → Absent (λ a k. a < k) (λ a k. a ≡ k) (λ a k. k < a) xs d n → Parted xs d n
part_absent xs d n p = record {
  within = p.within;
  under = λ j l. p.below j 0 l;
  over = λ l. omega (arith, p.above n 0 (omega arith) l);
}

next : {x : ℕ} {xs : List ℕ} {d n : ℕ} → Parted (x ∷ xs) d (suc n) → Parted xs d n
next c = record {
  within = let h = c.within in omega arith;
  under = λ j l. c.under (suc j) (omega arith);
  over = λ l. c.over (omega arith);
}

take_before : (xs : List ℕ) (d n : ℕ) → Ascending xs → Parted xs d n → take n xs ≡ before d xs
take_before [] d zero a c = refl
take_before [] d (suc n) a c = absurd (let h = c.within in omega arith)
take_before (x ∷ xs) d zero a c = sym (before_none d (x ∷ xs) (from_first d x xs a (c.over (omega arith))))
take_before (x ∷ xs) d (suc n) a c = rw (lt-ltb x d (c.under 0 (omega arith))) (ap (λ ys. x ∷ ys) (take_before xs d n a.1 (next c)))

drop_since : (xs : List ℕ) (d n : ℕ) → Ascending xs → Parted xs d n → drop n xs ≡ since d xs
drop_since [] d zero a c = refl
drop_since [] d (suc n) a c = absurd (let h = c.within in omega arith)
drop_since (x ∷ xs) d zero a c = sym (since_whole d (x ∷ xs) (from_first d x xs a (c.over (omega arith))))
drop_since (x ∷ xs) d (suc n) a c = rw (lt-leb d x (c.under 0 (omega arith))) (drop_since xs d n a.1 (next c))

pub split : (l : DateList) (d n : ℕ) → Parted (date_days l) d n → Split l d n
split l d n c =
    let xs = date_days l in
    let a : Ascending xs = climbs_ascend 0 xs l.days.sound in
    record {
      within = c.within;
      first =
          ap head_of (sym (drop_since xs d n a c))
          ∙ ⊎_elim (λ (k : n < length xs). rw (lt-ltb n (length xs) k) (ap head_of (drop_more xs n 0 k)))
          (λ (k : length xs ≤ n). rw (le-ltb n (length xs) k) (ap head_of (drop_all n xs k)))
          (cases_lt n (length xs));
      head = take_before xs d n a c;
      tail = drop_since xs d n a c;
    }
