-- A rule that has days can be made again of its parts.
use Rattle.std.proofs.Common.{◌≡◌, ℕ, zero, suc, ◌+◌, ◌<◌, ◌≤◌, Bool, true, false, not, ◌&&◌, eqb, leb, List, [], ◌∷◌, is_some, Some, None, Option, sym, refl, ap, ◌∙◌, ⊎_elim, arith}
use Rattle.std.proofs.lemmas.Bool.{cases_lt, and_parts, and_from, or_from, not_from_true, le-leb, eqb-true, eq-eqb, ne_eqb}
use Rattle.calendar.specs.Years.{last_day}
use Rattle.recurrence.specs.declared.parts.Pattern.{Pattern}
use Rattle.rule.specs.declared.rules.Rule.{Rule}
use Rattle.rule.specs.Spans.{span, limited, stop}
use Rattle.rule.specs.Lists.{chooses, days_of}
use Rattle.recurrence.specs.Bounds.{pattern_fits, suits}
use Rattle.rule.specs.Bounds.{sound, count_fits, one_end}
use Rattle.rule.specs.Refused.{list_of, count_bounds, in_bounds, conflict, among, refusal}
use Rattle.rule.specs.Remade.{recurrence_by, Remakes}
use Rattle.rule.specs.SpansLemmas.{found, void, empty}
use Rattle.rule.proofs.Refusals.{by_none, chosen_among}

sound_parts : (p : Pattern) → sound (Some p) ≡ true → (pattern_fits p ≡ true) × (suits p.frequency p.month_days p.week_days ≡ true)
unfolding sound
sound_parts p t = and_parts (pattern_fits p) (suits p.frequency p.month_days p.week_days) t

-- a list with a day is not empty
pub empty_not : (x : ℕ) (xs : List ℕ) → [] ≡ x ∷ xs → ⊥
empty_not x xs e = cc

some_count : (c : Option ℕ) (x : ℕ) (xs ys : List ℕ) → count_fits c ≡ true → limited c ys ≡ x ∷ xs → count_bounds c ≡ true
some_count None x xs ys f e = refl
some_count (Some zero) x xs ys f e = absurd (empty_not x xs e)
some_count (Some (suc k)) x xs ys f e = and_from (leb 1 (suc k)) (leb (suc k) 10000) (le-leb 1 (suc k) (omega arith)) f

one_of : (u c : Option ℕ) (x : ℕ) (xs ys : List ℕ) → one_end u c ≡ true → limited c ys ≡ x ∷ xs → (is_some c && is_some u) ≡ false
one_of None None x xs ys o e = refl
one_of None (Some k) x xs ys o e = refl
one_of (Some d) None x xs ys o e = refl
one_of (Some d) (Some zero) x xs ys o e = absurd (empty_not x xs e)
one_of (Some d) (Some (suc k)) x xs ys o e = absurd (omega (arith, eqb-true (suc k) 0 o))

-- a list that is not empty ends past its start
past : (f : ℕ → Bool) (s e x : ℕ) (xs : List ℕ) → span f s e ≡ x ∷ xs → s < e
past f s e x xs q = ⊎_elim (λ (l : s < e). l) (λ (l : e ≤ s). absurd (empty_not x xs (sym (void f s e l) ∙ q))) (cases_lt s e)

first_day : (f : ℕ → Bool) (s e x : ℕ) (xs : List ℕ) → f s ≡ true → span f s e ≡ x ∷ xs → x ≡ s
first_day f s e x xs t q =
    let l = past f s e x xs q in
    let w : s ∷ span f (s + 1) e ≡ x ∷ xs = sym (found f s e l t) ∙ q in
    cc

once : (s k : ℕ) → chooses None s k ≡ eqb k s
unfolding chooses
once s k = refl

pub alone : (s e : ℕ) → s < e → span (chooses None s) s e ≡ s ∷ []
alone s e l =
    found (chooses None s) s e l (once s s ∙ eq-eqb s s refl)
    ∙ ap (λ (xs : List ℕ). s ∷ xs) (empty (chooses None s) (s + 1) e (λ k a b. once s k ∙ ne_eqb k s (λ z. omega arith)))

module _ (s e : ℕ) (u c : Option ℕ) (b : s < 109573) (h : e ≤ stop u) (f : count_fits c ≡ true) (o : one_end u c ≡ true) where
  accepted : (p : Pattern) (x : ℕ) (xs : List ℕ) → sound (Some p) ≡ true → chooses (Some p) s s ≡ true → days_of (Some p) s u c ≡ span (chooses (Some p) s) s e
      → days_of (Some p) s u c ≡ x ∷ xs → refusal s (recurrence_by (Some p) c u) ≡ None
  unfolding refusal
  accepted p x xs t g settled d =
      let q = sound_parts p t in
      let n = some_count c x xs (span (chooses (Some p) s) s (stop u)) f d in
      let l = past (chooses (Some p) s) s e x xs (sym settled ∙ d) in
      by_none (in_bounds s (recurrence_by (Some p) c u)) (conflict (recurrence_by (Some p) c u)) (among s (list_of s (recurrence_by (Some p) c u)))
      (sym (and_from (leb s last_day) _ (le-leb s last_day (omega arith)) (and_from (pattern_fits p) _ q.0 n)))
      (sym (or_from (not (suits p.frequency p.month_days p.week_days)) _ (not_from_true _ q.1) (one_of u c x xs (span (chooses (Some p) s) s (stop u)) o d)))
      (sym (chosen_among (Some p) s u c g (omega arith) n))

accepted_once : (s : ℕ) → s < 109573 → refusal s None ≡ None
unfolding refusal
accepted_once s b =
    by_none (in_bounds s None) (conflict None) (among s (list_of s None)) (sym (and_from (leb s last_day) true (le-leb s last_day (omega arith)) refl)) refl
    (sym (chosen_among None s None None (once s s ∙ eq-eqb s s refl) b refl))

remade : (s e : ℕ) (o : Option Pattern) (u c : Option ℕ) → s < 109573 → e ≤ stop u → sound o ≡ true → chooses o s s ≡ true → count_fits c ≡ true → one_end u c ≡ true
    → days_of o s u c ≡ span (chooses o s) s e → (x : ℕ) (xs : List ℕ) → days_of o s u c ≡ x ∷ xs
    → (refusal s (recurrence_by o c u) ≡ None) × (list_of s (recurrence_by o c u) ≡ days_of o s u c)
remade s e None u c b h t g f n settled x xs d =
    (accepted_once s b, alone s 109573 b ∙ sym (settled ∙ alone s e (past (chooses None s) s e x xs (sym settled ∙ d))))
remade s e (Some p) u c b h t g f n settled x xs d = (accepted s e u c b h f n p x xs t g settled d, refl)

pub remakes : (r : Rule) → Remakes r
remakes r x xs d =
    let m = remade r.choice.start r.end r.choice.pattern r.until r.count r.choice.begun r.range.0 r.choice.parts r.begins r.few r.ends r.settled x xs d in
    record { first = first_day (chooses r.choice.pattern r.choice.start) r.choice.start r.end x xs r.begins (sym r.settled ∙ d); accepted = m.0; same = m.1 }
