-- The days of a rule's list are the days that are meant.
use Rattle.std.proofs.Common.{◌≡◌, ℕ, zero, suc, ◌+◌, ◌-◌, ◌*◌, ◌/◌, ◌%◌, ◌<◌, ◌≤◌, Bool, true, false, ◌||◌, eqb, ltb, List, [], ◌∷◌, ◌++◌, length, take, Some, None, Option, sym, refl, ap, ◌∙◌, subst, ⊎_elim, le_trans, add-mul, div-add-mod', le-div_iff_mul-le, div-mul-le_self, arith}
use native.Mathlib.Nat.{add-mul-mod_self_right}
use Rattle.std.specs.List.{AllByRecursion, list_any}
use Rattle.std.proofs.ByRecursion.{All-weaker}
use Rattle.std.proofs.lemmas.Bool.Decides.{eqb_tells}
use Rattle.std.proofs.lemmas.Bool.{cases_lt, cases_Bool, and_parts, and_from, or_left, or_right, eqb-true, eq-eqb, lt-ltb, le-ltb}
use Rattle.calendar.specs.Weekdays.{weekday_number}
use Rattle.source.specs.Days.{Ascending, before}
use Rattle.source.specs.Kept.{kept_none}
use Rattle.recurrence.specs.declared.parts.Pattern.{Pattern}
use Rattle.rule.specs.declared.rules.Rule.{Rule}
use Rattle.rule.specs.Spans.{chosen, span, limited, stop}
use Rattle.pattern.specs.Periods.{period_in, active}
use Rattle.pattern.specs.Picks.{picked, picks}
use Rattle.rule.specs.Lists.{chooses}
use Rattle.rule.specs.Bounds.{sound}
use Rattle.rule.specs.Cut.{days_in}
use Rattle.rule.specs.Refused.{among}
use Rattle.rule.specs.Meaning.{Due, DueIn, Leaves, ListsMeant}
use Rattle.rule.specs.SpansLemmas.{from, until, ascends, split, found}
use Rattle.pattern.proofs.Periods.{rises}
use Rattle.rule.proofs.Bounds.{sound_usable, stop_low}
use Rattle.rule.proofs.Refusals.{all_limited}

-- ---- members of a list

among_all : (P : ℕ → Type 0) (d : ℕ) (xs : List ℕ) → AllByRecursion P xs → among d xs ≡ true → P d
unfolding among
among_all P d [] a t = cc
among_all P d (x ∷ xs) a t =
    ⊎_elim
    (λ e. subst P e.1 a.0)
    (λ e. among_all P d xs a.1 (rw e.0 at t))
    (eqb_tells x d)

among_after : (d : ℕ) (xs ys : List ℕ) → among d (xs ++ d ∷ ys) ≡ true
unfolding among
among_after d [] ys = or_left (eqb d d) (list_any (λ y. eqb y d) ys) (eq-eqb d d refl)
among_after d (x ∷ xs) ys = or_right (eqb x d) (list_any (λ y. eqb y d) (xs ++ d ∷ ys)) (among_after d xs ys)

among_none : (d : ℕ) → among d [] ≡ true → ⊥
unfolding among
among_none d t = cc

among_here : (d x : ℕ) (xs : List ℕ) → x ≡ d → among d (x ∷ xs) ≡ true
unfolding among
among_here d x xs e = or_left (eqb x d) (list_any (λ y. eqb y d) xs) (eq-eqb x d e)

among_next : (d x : ℕ) (xs : List ℕ) → eqb x d ≡ false → among d (x ∷ xs) ≡ among d xs
unfolding among
among_next d x xs e = ap (λ b. b || list_any (λ y. eqb y d) xs) e

-- ---- the first so many

none_before : (d : ℕ) (xs : List ℕ) → AllByRecursion (λ y. d ≤ y) xs → before d xs ≡ []
none_before d xs a = kept_none (λ x. ltb x d) xs (All-weaker (λ y. d ≤ y) (λ y. ltb y d ≡ false) (λ y h. le-ltb y d h) xs a)

before_next : (d x : ℕ) (xs : List ℕ) → length (before d (x ∷ xs)) ≤ suc (length (before d xs))
before_next d x xs =
    ⊎_elim (λ (l : x < d). rw (lt-ltb x d l) (omega arith)) (λ (l : d ≤ x). rw (le-ltb x d l) (omega arith)) (cases_lt x d)

before_more : (d x : ℕ) (xs : List ℕ) → x < d → length (before d (x ∷ xs)) ≡ suc (length (before d xs))
before_more d x xs l = rw (lt-ltb x d l)

in_first : (d k : ℕ) (xs : List ℕ) → Ascending xs → among d (take k xs) ≡ true → length (before d xs) < k
in_first d zero xs a t = absurd (among_none d t)
in_first d (suc k) [] a t = absurd (among_none d t)
in_first d (suc k) (x ∷ xs) a t =
    ⊎_elim
    (λ e.
    let q : x ≡ d = e.1 in
    let n : before d (x ∷ xs) ≡ [] = none_before d (x ∷ xs) (omega arith, All-weaker (λ y. x < y) (λ y. d ≤ y) (λ y h. omega arith) xs a.0) in
    omega (arith, ap length n))
    (λ e. omega (arith, before_next d x xs, in_first d k xs a.1 (sym (among_next d x (take k xs) e.0) ∙ t)))
    (eqb_tells x d)

first_in : (d k : ℕ) (xs : List ℕ) → Ascending xs → among d xs ≡ true → length (before d xs) < k → among d (take k xs) ≡ true
first_in d zero xs a t h = absurd (omega arith)
first_in d (suc k) [] a t h = absurd (among_none d t)
first_in d (suc k) (x ∷ xs) a t h =
    ⊎_elim
    (λ e. among_here d x (take k xs) e.1)
    (λ e.
    let u : among d xs ≡ true = sym (among_next d x xs e.0) ∙ t in
    let l : x < d = among_all (λ y. x < y) d xs a.0 u in
    among_next d x (take k xs) e.0 ∙ first_in d k xs a.1 u (omega (arith, before_more d x xs l)))
    (eqb_tells x d)

-- ---- a span

passes : (f : ℕ → Bool) (a n : ℕ) → AllByRecursion (λ x. f x ≡ true) (chosen f a n)
passes f a zero = tt
passes f a (suc n) = ⊎_elim (λ t. rw t (t, passes f (suc a) n)) (λ t. rw t (passes f (suc a) n)) (cases_Bool (f a))

in_span : (f : ℕ → Bool) (a b d : ℕ) → a ≤ d → d < b → f d ≡ true → among d (span f a b) ≡ true
in_span f a b d h l t =
    ap (among d) (split f a d b h (omega arith) ∙ ap (λ xs. span f a d ++ xs) (found f d b l t)) ∙ among_after d (span f a d) (span f (d + 1) b)

-- ---- periods

times : (x y i : ℕ) → 0 < i → y ≤ x → x % i ≡ y % i → (n : ℕ) × (x ≡ y + n * i)
times x y i p l e =
    let q : y / i ≤ x / i = (le-div_iff_mul-le p).1 (le_trans (div-mul-le_self y i) l) in
    let s : y / i + (x / i - y / i) ≡ x / i = omega arith in
    let m : (x / i) * i ≡ (y / i) * i + (x / i - y / i) * i = sym (ap (λ k. k * i) s) ∙ add-mul (y / i) (x / i - y / i) i in
    (x / i - y / i, omega (arith, m, div-add-mod' x i, div-add-mod' y i))

due_from : (p : Pattern) (s d : ℕ) → 1 ≤ p.interval → s ≤ d → d < 109573 → picks p s d ≡ true → Due p s d
unfolding picks
due_from p s d i h l t =
    let b = and_parts (active p s d) (picked p s d) t in
    let e = eqb-true (period_in p d % p.interval) (period_in p s % p.interval) b.0 in
    let n = times (period_in p d) (period_in p s) p.interval (omega arith) (rises p.frequency (weekday_number p.week_start) s d h l) e in
    record { times = n.0; aligned = n.1; picked_is = b.1 }

from_due : (p : Pattern) (s d : ℕ) → Due p s d → picks p s d ≡ true
unfolding picks
from_due p s d u =
    and_from (active p s d) (picked p s d)
    (eq-eqb (period_in p d % p.interval) (period_in p s % p.interval) (ap (λ k. k % p.interval) u.aligned ∙ add-mul-mod_self_right (period_in p s) u.times p.interval))
    u.picked_is

-- ---- the list

chosen_due : (o : Option Pattern) (s d : ℕ) → sound o ≡ true → s ≤ d → d < 109573 → chooses o s d ≡ true → DueIn o s d
unfolding chooses
chosen_due None s d o h l t = eqb-true d s t
chosen_due (Some p) s d o h l t = due_from p s d (sound_usable (Some p) p refl o).some h l t

due_chosen : (o : Option Pattern) (s d : ℕ) → DueIn o s d → chooses o s d ≡ true
unfolding chooses
due_chosen None s d u = eq-eqb d s u
due_chosen (Some p) s d u = from_due p s d u

left_by : (c : Option ℕ) (d : ℕ) (xs : List ℕ) → Ascending xs → among d (limited c xs) ≡ true → Leaves c (length (before d xs))
left_by None d xs a t = tt
left_by (Some k) d xs a t = in_first d k xs a t

left_in : (c : Option ℕ) (d : ℕ) (xs : List ℕ) → Ascending xs → among d xs ≡ true → Leaves c (length (before d xs)) → among d (limited c xs) ≡ true
left_in None d xs a t h = t
left_in (Some k) d xs a t h = first_in d k xs a t h

pub lists_meant : (r : Rule) → ListsMeant r
lists_meant r d =
    let s = r.choice.start in
    let e = stop r.until in
    let f = chooses r.choice.pattern r.choice.start in
    let xs = span (chooses r.choice.pattern r.choice.start) r.choice.start (stop r.until) in
    let asc = ascends (chooses r.choice.pattern r.choice.start) r.choice.start (stop r.until - r.choice.start) in
    let has : (P : ℕ → Type 0) → AllByRecursion P (span (chooses r.choice.pattern r.choice.start) r.choice.start (stop r.until)) → among d (days_in r) ≡ true → P d =
    λ P a t. among_all P d (days_in r) (all_limited P r.count (span (chooses r.choice.pattern r.choice.start) r.choice.start (stop r.until)) a) t in (
      λ t.
          let low : r.choice.start ≤ d = has (λ x. r.choice.start ≤ x) (from (chooses r.choice.pattern r.choice.start) r.choice.start (stop r.until - r.choice.start)) t in
          let high : d < stop r.until = has (λ x. x < stop r.until) (under (chooses r.choice.pattern r.choice.start) r.choice.start (stop r.until)) t in
          record {
            from_start = low;
            to_last = high;
            due = chosen_due r.choice.pattern r.choice.start d r.choice.parts low (omega (arith, stop_low r.until)) (has (λ x. chooses r.choice.pattern r.choice.start x ≡ true) (passes (chooses r.choice.pattern r.choice.start) r.choice.start (stop r.until - r.choice.start)) t);
            left = left_by r.count d xs asc t;
          },
      λ m. left_in r.count d xs asc (in_span (chooses r.choice.pattern r.choice.start) r.choice.start (stop r.until) d m.from_start m.to_last (due_chosen r.choice.pattern r.choice.start d m.due)) m.left,
    )
  where
    under : (f : ℕ → Bool) (a b : ℕ) → AllByRecursion (λ x. x < b) (span f a b)
    under f a b =
        ⊎_elim (λ (l : a < b). until f a (b - a) b (omega arith))
        (λ (l : b ≤ a). let z : b - a ≡ 0 = omega arith in rw z tt) (cases_lt a b)
