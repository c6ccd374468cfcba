-- The days of an interval, and where a number cuts them.
use Rattle.std.specs.Prelude.{◌≡◌, ℕ, zero, suc, ◌+◌, ◌-◌, ◌*◌, ◌<◌, ◌≤◌, min, cond, [], ◌∷◌, length, Some, None, nat_lt, refl}
use Rattle.std.proofs.Common.{sym, ap, ◌∙◌, ⊎_elim, suc-mul, zero-mul, add-mul, arith}
use Rattle.std.specs.List.{AllByRecursion}
use Rattle.std.proofs.ByRecursion.{All-weaker}
use Rattle.std.proofs.lemmas.Bool.{cases_lt, lt-ltb, le-ltb, lt-leb}
use Rattle.source.specs.Days.{Ascending, first_from, before, since, head_of}
use Rattle.source.specs.declared.intervals.Interval.{Interval}
use Rattle.source.specs.Intervals.{ticks, Cut, Placed}
use Rattle.source.specs.Ascents.{before_both, before_none, since_whole}

ticks_from : (s k n a : ℕ) → a ≤ s → AllByRecursion (λ x. a ≤ x) (ticks s k n)
ticks_from s k zero a h = tt
ticks_from s k (suc n) a h = (h, ticks_from (s + k) k n a (omega arith))

pub ticks_ascend : (s k n : ℕ) → 1 ≤ k → Ascending (ticks s k n)
ticks_ascend s k zero h = tt
ticks_ascend s k (suc n) h =
    (All-weaker (λ x. s + 1 ≤ x) (λ x. s < x) (λ x g. omega arith) (ticks (s + k) k n) (ticks_from (s + k) k n (s + 1) (omega arith)), ticks_ascend (s + k) k n h)

length_ticks : (s k n : ℕ) → length (ticks s k n) ≡ n
length_ticks s k zero = refl
length_ticks s k (suc n) = ap suc (length_ticks (s + k) k n)

first_under : {s k n m d : ℕ} → Cut s k n (suc m) d → s < d
first_under {s} {k} {n} {m} {d} c = let h : s + 0 * k < d = c.under 0 (omega arith) in omega (arith, zero-mul k)

first_over : {s k n d : ℕ} → Cut s k (suc n) 0 d → d ≤ s
first_over {s} {k} {n} {d} c = let h : d ≤ s + 0 * k = c.over (omega arith) in omega (arith, zero-mul k)

next_cut : {s k n m d : ℕ} → Cut s k (suc n) (suc m) d → Cut (s + k) k n m d
next_cut {s} {k} {n} {m} {d} c = record {
  within = let h = c.within in omega arith;
  under = λ j h. let u : s + suc j * k < d = c.under (suc j) (omega arith) in omega (arith, suc-mul j k);
  over = λ h. let u : d ≤ s + suc m * k = c.over (omega arith) in omega (arith, suc-mul m k);
}

before_ticks : (s k n m d : ℕ) → Cut s k n m d → before d (ticks s k n) ≡ ticks s k m
before_ticks s k zero zero d c = refl
before_ticks s k zero (suc m) d c = absurd (let h = c.within in omega arith)
before_ticks s k (suc n) zero d c = before_none d (ticks s k (suc n)) (ticks_from s k (suc n) d (first_over c))
before_ticks s k (suc n) (suc m) d c = rw (lt-ltb s d (first_under c)) (ap (λ xs. s ∷ xs) (before_ticks (s + k) k n m d (next_cut c)))

since_ticks : (s k n m d : ℕ) → Cut s k n m d → since d (ticks s k n) ≡ ticks (s + m * k) k (n - m)
since_ticks s k zero zero d c = refl
since_ticks s k zero (suc m) d c = absurd (let h = c.within in omega arith)
since_ticks s k (suc n) zero d c =
    let e : s ≡ s + 0 * k = omega (arith, zero-mul k) in
    let f : suc n ≡ suc n - 0 = omega arith in
    since_whole d (ticks s k (suc n)) (ticks_from s k (suc n) d (first_over c))
    ∙ ap (λ a. ticks a k (suc n)) e ∙ ap (λ a. ticks (s + 0 * k) k a) f
since_ticks s k (suc n) (suc m) d c =
    let e : s + k + m * k ≡ s + suc m * k = omega (arith, suc-mul m k) in
    let f : n - m ≡ suc n - suc m = omega arith in
    rw (lt-leb d s (first_under c))
    (since_ticks (s + k) k n m d (next_cut c) ∙ ap (λ a. ticks a k (n - m)) e ∙ ap (λ a. ticks (s + suc m * k) k a) f)

-- the first of the days that are left
first_ticks : (s k h m : ℕ) → head_of (ticks s k (h - m)) ≡ cond (nat_lt m h) (Some s) None
first_ticks s k h m =
    ⊎_elim
    (λ (l : m < h). let e : h - m ≡ suc (h - m - 1) = omega arith in rw (lt-ltb m h l, e))
    (λ (l : h ≤ m). let e : h - m ≡ 0 = omega arith in rw (le-ltb m h l, e))
    (cases_lt m h)

-- n days that all lie before e
whole_ticks : (s k n e : ℕ) → ((j : ℕ) → j < n → s + j * k < e) → before e (ticks s k n) ≡ ticks s k n
whole_ticks s k n e u = before_ticks s k n n e (record { within = omega arith; under = u; over = λ h. absurd (omega arith) })

-- of n days m lie before d and e
module _ (s k n e d m : ℕ) (c : Cut s k n m (min d e)) where
  early : (j : ℕ) → j < m → s + j * k < e
  early j l = omega (arith, c.under j l)

  head_days : before e (ticks s k m) ≡ before d (before e (ticks s k n))
  head_days = whole_ticks s k m e early ∙ sym (before_both d e (ticks s k n) ∙ before_ticks s k n m (min d e) c)

  head_count : m ≡ length (before e (ticks s k m))
  head_count = sym (ap length (whole_ticks s k m e early) ∙ length_ticks s k m)

-- of n days h lie before e, and m before d and e
module _ (s k n e d h m : ℕ) (b : Cut s k n h e) (c : Cut s k n m (min d e)) where
  fewer : m ≤ h
  fewer = ⊎_elim (λ (l : h < m). absurd (omega (arith, c.within, b.over (omega (arith, c.within)), c.under h l))) (λ (g : m ≤ h). g) (cases_lt h m)

  inner : Cut s k h m d
  inner = record {
    within = fewer;
    under = λ j l. omega (arith, c.under j l);
    over = λ l. omega (arith, b.under m l, b.within, c.over (omega (arith, b.within)));
  }

  left : since d (before e (ticks s k n)) ≡ ticks (s + m * k) k (h - m)
  left = ap (since d) (before_ticks s k n h e b) ∙ since_ticks s k h m d inner

  -- the first day at or after d
  first_left : first_from d (before e (ticks s k n)) ≡ head_of (ticks (s + m * k) k (h - m))
  first_left = ap head_of left

  whole : before e (ticks (s + m * k) k (h - m)) ≡ ticks (s + m * k) k (h - m)
  whole =
      whole_ticks (s + m * k) k (h - m) e
      (λ j l. let u : s + (m + j) * k < e = b.under (m + j) (omega (arith, fewer)) in omega (arith, add-mul m j k))

  tail_days : before e (ticks (s + m * k) k (h - m)) ≡ since d (before e (ticks s k n))
  tail_days = whole ∙ sym left

  tail_count : h - m ≡ length (before e (ticks (s + m * k) k (h - m)))
  tail_count = sym (ap length whole ∙ length_ticks (s + m * k) k (h - m))

  tail_none : h ≤ m → [] ≡ since d (before e (ticks s k n))
  tail_none l = let z : h - m ≡ 0 = omega arith in sym (left ∙ ap (ticks (s + m * k) k) z)

pub placed : (i : Interval) (d m h : ℕ) → Cut i.start i.step i.count h 109573 → Cut i.start i.step i.count m (min d 109573) → Placed i d m h
placed i d m h b c =
    let s = i.start in
    let k = i.step in
    let n = i.count in
    record {
      few = b.within;
      within = fewer s k n 109573 d h m b c;
      last = λ l. omega (arith, b.under m l);
      first = first_left s k n 109573 d h m b c ∙ first_ticks (s + m * k) k h m;
      head = head_days s k n 109573 d m c;
      head_count = head_count s k n 109573 d m c;
      tail = tail_days s k n 109573 d h m b c;
      tail_count = tail_count s k n 109573 d h m b c;
      none = tail_none s k n 109573 d h m b c;
    }
