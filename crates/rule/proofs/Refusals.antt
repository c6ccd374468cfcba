-- What is refused, and what is left where nothing is.
use Rattle.std.proofs.Common.{◌≡◌, ℕ, zero, suc, ◌+◌, ◌-◌, ◌<◌, ◌≤◌, Bool, true, false, not, ◌&&◌, eqb, leb, List, [], ◌∷◌, take, is_some, Some, None, Option, sym, refl, ap, ◌∙◌, subst, ⊎_elim, arith}
use Rattle.std.specs.List.{AllByRecursion, list_any}
use Rattle.std.proofs.ByRecursion.{All-weaker, All-take}
use Rattle.std.proofs.lemmas.Bool.{not-false, cases_lt, cases_Bool, both_ways, and_parts, and_from, or_parts, or_from, or_left, leb-true, eq-eqb, ne_eqb}
use Rattle.calendar.specs.Years.{last_day}
use Rattle.refusal.specs.declared.Refusal.TheVariants.{OutOfBounds, RuleConflict, StartNotPicked}
use Rattle.recurrence.specs.declared.parts.Recurrence.{Recurrence}
use Rattle.recurrence.specs.declared.parts.Pattern.{Pattern}
use Rattle.rule.specs.Spans.{span, limited, stop}
use Rattle.rule.specs.Lists.{chooses, days_of}
use Rattle.recurrence.specs.Bounds.{pattern_fits, suits}
use Rattle.rule.specs.Bounds.{sound, count_fits, one_end}
use Rattle.rule.specs.Refused.{pattern_of, until_of, count_of, list_of, pattern_bounds, pattern_suits, count_bounds, in_bounds, conflict, among, first_refusal, refusal}
use Rattle.rule.specs.SpansLemmas.{from, skip, found, void}

-- ---- the start among the days

among_late : (s : ℕ) (xs : List ℕ) → AllByRecursion (λ x. s < x) xs → among s xs ≡ false
unfolding among
among_late s [] a = refl
among_late s (x ∷ xs) a = or_from (eqb x s) (list_any (λ y. eqb y s) xs) (ne_eqb x s (λ e. omega (arith, a.0))) (among_late s xs a.1)

pub all_limited : (P : ℕ → Type 0) (c : Option ℕ) (xs : List ℕ) → AllByRecursion P xs → AllByRecursion P (limited c xs)
all_limited P None xs a = a
all_limited P (Some k) xs a = All-take P k xs a

not_first : (f : ℕ → Bool) (s e : ℕ) → f s ≡ false → AllByRecursion (λ x. s < x) (span f s e)
not_first f s e t =
    ⊎_elim
    (λ (l : s < e).
    subst (λ (xs : List ℕ). AllByRecursion (λ x. s < x) xs) (sym (skip f s (s + 1) e (omega arith) (omega arith) (λ k a b. let q : s ≡ k = omega arith in rw q at t)))
    (All-weaker (λ x. s + 1 ≤ x) (λ x. s < x) (λ x h. omega arith) (span f (s + 1) e) (from f (s + 1) (e - (s + 1)))))
    (λ (l : e ≤ s). subst (λ (xs : List ℕ). AllByRecursion (λ x. s < x) xs) (sym (void f s e l)) tt)
    (cases_lt s e)

-- a start that is not chosen is not among the days, nor is one past the last day
unchosen : (p : Option Pattern) (s : ℕ) (u c : Option ℕ) → chooses p s s ≡ false → among s (days_of p s u c) ≡ false
unchosen p s u c t = among_late s (days_of p s u c) (all_limited (λ x. s < x) c (span (chooses p s) s (stop u)) (not_first (chooses p s) s (stop u) t))

pub too_late : (p : Option Pattern) (s : ℕ) (u c : Option ℕ) → stop u ≤ s → among s (days_of p s u c) ≡ false
too_late p s u c h =
    among_late s (days_of p s u c)
    (all_limited (λ x. s < x) c (span (chooses p s) s (stop u)) (subst (λ (xs : List ℕ). AllByRecursion (λ x. s < x) xs) (sym (void (chooses p s) s (stop u) h)) tt))

among_here : (s : ℕ) (xs : List ℕ) → among s (s ∷ xs) ≡ true
unfolding among
among_here s xs = or_left (eqb s s) (list_any (λ y. eqb y s) xs) (eq-eqb s s refl)

first_kept : (s : ℕ) (c : Option ℕ) (xs : List ℕ) → count_bounds c ≡ true → among s (limited c (s ∷ xs)) ≡ true
first_kept s None xs b = among_here s xs
first_kept s (Some zero) xs b = absurd (omega (arith, leb-true 1 0 (and_parts (leb 1 0) (leb 0 10000) b).0))
first_kept s (Some (suc k)) xs b = among_here s (take k xs)

pub chosen_among : (p : Option Pattern) (s : ℕ) (u c : Option ℕ) → chooses p s s ≡ true → s < stop u → count_bounds c ≡ true → among s (days_of p s u c) ≡ true
chosen_among p s u c t l b =
    ap (λ (xs : List ℕ). among s (limited c xs)) (found (chooses p s) s (stop u) l t) ∙ first_kept s c (span (chooses p s) (s + 1) (stop u)) b

-- the start is among the days if it is chosen
pub start_told : (p : Option Pattern) (s : ℕ) (u c : Option ℕ) → s < stop u → count_bounds c ≡ true → chooses p s s ≡ among s (days_of p s u c)
start_told p s u c l b = ⊎_elim (λ t. t ∙ sym (chosen_among p s u c t l b)) (λ t. t ∙ sym (unchosen p s u c t)) (cases_Bool (chooses p s s))

-- ---- the refusals, in their order

by_bounds : (a b c : Bool) → false ≡ a → first_refusal a b c ≡ Some OutOfBounds
by_bounds a b c e = rw (← e)

by_conflict : (a b c : Bool) → true ≡ a → true ≡ b → first_refusal a b c ≡ Some RuleConflict
by_conflict a b c e f = rw (← e, ← f)

by_start : (a b c : Bool) → true ≡ a → false ≡ b → false ≡ c → first_refusal a b c ≡ Some StartNotPicked
by_start a b c e f g = rw (← e, ← f, ← g)

pub by_none : (a b c : Bool) → true ≡ a → false ≡ b → true ≡ c → first_refusal a b c ≡ None
by_none a b c e f g = rw (← e, ← f, ← g)

module _ (s : ℕ) (r : Option Recurrence) where
  pub refused_bounds : false ≡ in_bounds s r → refusal s r ≡ Some OutOfBounds
  unfolding refusal
  refused_bounds e = by_bounds _ _ _ e

  pub refused_conflict : true ≡ in_bounds s r → true ≡ conflict r → refusal s r ≡ Some RuleConflict
  unfolding refusal
  refused_conflict e f = by_conflict _ _ _ e f

  pub refused_start : true ≡ in_bounds s r → false ≡ conflict r → false ≡ among s (list_of s r) → refusal s r ≡ Some StartNotPicked
  unfolding refusal
  refused_start e f g = by_start _ _ _ e f g

  pub refused_none : true ≡ in_bounds s r → false ≡ conflict r → true ≡ among s (list_of s r) → refusal s r ≡ None
  unfolding refusal
  refused_none e f g = by_none _ _ _ e f g

-- by the parts as the code has them
pub same_list : (s : ℕ) (r : Option Recurrence) (o : Option Pattern) (u c : Option ℕ) (b : Bool) → o ≡ pattern_of r → u ≡ until_of r → c ≡ count_of r
    → b ≡ among s (days_of o s u c) → b ≡ among s (list_of s r)
same_list s r o u c b eo eu ec e =
    e ∙ ap (λ (x : Option Pattern). among s (days_of x s u c)) eo ∙ ap (λ (x : Option ℕ). among s (days_of (pattern_of r) s x c)) eu
    ∙ ap (λ (x : Option ℕ). among s (days_of (pattern_of r) s (until_of r) x)) ec

nothing : (a b c : Bool) → first_refusal a b c ≡ None → (a ≡ true) × (b ≡ false) × (c ≡ true)
nothing true true c e = cc
nothing true false true e = (refl, refl, refl)
nothing true false false e = cc
nothing false b c e = cc

-- ---- what holds where nothing is refused

bounds_parts : (s : ℕ) (r : Option Recurrence) → in_bounds s r ≡ true → (s < 109573) × (pattern_bounds (pattern_of r) ≡ true) × (count_bounds (count_of r) ≡ true)
bounds_parts s r e =
    let a = and_parts (leb s last_day) _ e in
    let b = and_parts (pattern_bounds (pattern_of r)) _ a.1 in
    (omega (arith, leb-true s last_day a.0), b.0, b.1)

sound_from : (o : Option Pattern) → pattern_bounds o ≡ true → pattern_suits o ≡ true → sound o ≡ true
unfolding sound
sound_from None a b = refl
sound_from (Some p) a b = and_from (pattern_fits p) (suits p.frequency p.month_days p.week_days) a b

conflict_parts : (r : Option Recurrence) → conflict r ≡ false → (pattern_suits (pattern_of r) ≡ true) × ((is_some (count_of r) && is_some (until_of r)) ≡ false)
conflict_parts r e = let a = or_parts (not (pattern_suits (pattern_of r))) _ e in (not-false (pattern_suits (pattern_of r)) a.0, a.1)

count_from : (c : Option ℕ) → count_bounds c ≡ true → count_fits c ≡ true
count_from None b = refl
count_from (Some k) b = (and_parts (leb 1 k) (leb k 10000) b).1

one_from : (u c : Option ℕ) → (is_some c && is_some u) ≡ false → one_end u c ≡ true
one_from None c e = refl
one_from (Some d) None e = refl
one_from (Some d) (Some k) e = cc

chosen_start : (p : Option Pattern) (s : ℕ) (u c : Option ℕ) → among s (days_of p s u c) ≡ true → chooses p s s ≡ true
chosen_start p s u c t = ⊎_elim (λ e. e) (λ e. absurd (both_ways (among s (days_of p s u c)) (unchosen p s u c e) t)) (cases_Bool (chooses p s s))

-- the parts of a rule fit
pub record Fine (s : ℕ) (o : Option Pattern) (u c : Option ℕ) : Type 0 where
  pub low : s < 109573
  pub parts : sound o ≡ true
  pub begins : chooses o s s ≡ true
  pub few : count_fits c ≡ true
  pub ends : one_end u c ≡ true

fine_of : (s : ℕ) (r : Option Recurrence) → refusal s r ≡ None → Fine s (pattern_of r) (until_of r) (count_of r)
unfolding refusal
fine_of s r e =
    let n = nothing (in_bounds s r) (conflict r) (among s (list_of s r)) e in
    let b = bounds_parts s r n.0 in
    let k = conflict_parts r n.1 in
    record {
      low = b.0;
      parts = sound_from (pattern_of r) b.1 k.0;
      begins = chosen_start (pattern_of r) s (until_of r) (count_of r) n.2;
      few = count_from (count_of r) b.2;
      ends = one_from (until_of r) (count_of r) k.1;
    }

pub fine : (s : ℕ) (r : Option Recurrence) (o : Option Pattern) (u c : Option ℕ) → o ≡ pattern_of r → u ≡ until_of r → c ≡ count_of r → refusal s r ≡ None → Fine s o u c
fine s r o u c eo eu ec e =
    subst (λ (x : Option Pattern). Fine s x u c) (sym eo)
    (subst (λ (x : Option ℕ). Fine s (pattern_of r) x c) (sym eu) (subst (λ (x : Option ℕ). Fine s (pattern_of r) (until_of r) x) (sym ec) (fine_of s r e)))

-- and so they are tested
pub to_test : (s : ℕ) (r : Option Recurrence) (o : Option Pattern) → o ≡ pattern_of r → in_bounds s r ≡ true → conflict r ≡ false → (s < 109573) × (sound o ≡ true)
to_test s r o eo e f =
    let b = bounds_parts s r e in
    let k = conflict_parts r f in
    (b.0, subst (λ (x : Option Pattern). sound x ≡ true) (sym eo) (sound_from (pattern_of r) b.1 k.0))
