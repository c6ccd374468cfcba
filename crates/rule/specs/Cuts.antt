-- The cuts of a rule.
use Rattle.std.specs.Prelude.{◌≡◌, ℕ, ◌+◌, ◌-◌, ◌<◌, ◌≤◌, min, max, Bool, true, not, ltb, leb, List, [], length, take, Some, None, Option, MatchOption, nat_le, nat_lt, refl}
use Rattle.std.proofs.Common.{sym, ap, subst, ◌∙◌, ⊎_elim, arith}
use Rattle.std.proofs.lemmas.Bool.{cases_lt, lt-leb, le-leb, lt-ltb, le-ltb}
use Rattle.std.proofs.lemmas.List.Filters.{length-filter_both}
use Rattle.std.specs.List.{AllByRecursion}
use Rattle.std.proofs.ByRecursion.{All-weaker}
use Rattle.calendar.specs.Years.{last_day}
use Rattle.source.specs.Days.{Ascending, head_of, first_from, before, since}
use Rattle.recurrence.specs.declared.parts.Pattern.{Pattern}
use Rattle.pattern.specs.First.{NoneIn, FirstIs, First}
use Rattle.rule.specs.Spans.{span, stop}
use Rattle.rule.specs.Lists.{chooses, days_of}
use Rattle.rule.specs.Cut.{recount, lowered, reuntil}
use Rattle.rule.specs.SpansLemmas.{ascends, until, alike, skip, found, empty, before_span, since_span, first_span, taken_span}
use Rattle.rule.specs.Tails.{moved}

first_in : (f : ℕ → Bool) (a e r : ℕ) → FirstIs f a e r → span f a e ≡ span f r e
first_in f a e r x = let b = x.high in skip f a r e x.low (omega arith) x.passed

-- a rule's list is a span
module _ (p : Option Pattern) (s : ℕ) (u c : Option ℕ) (e : ℕ) (settled : days_of p s u c ≡ span (chooses p s) s e) where
  pub ascending : Ascending (days_of p s u c)
  ascending = subst (λ (xs : List ℕ). Ascending xs) (sym settled) (ascends (chooses p s) s (e - s))

  pub bounded : s < 109573 → e ≤ stop u → stop u ≤ 109573 → AllByRecursion (λ d. d ≤ last_day) (days_of p s u c)
  bounded b h l =
      subst (λ (xs : List ℕ). AllByRecursion (λ d. d ≤ last_day) xs) (sym settled)
      (All-weaker (λ d. d < max s e) (λ d. d ≤ last_day) (λ d m. omega arith) (span (chooses p s) s e) (until (chooses p s) s (e - s) (max s e) (omega arith)))

  pub first_some : (d r : ℕ) → FirstIs (chooses p s) (max s d) e r → Some r ≡ first_from d (days_of p s u c)
  first_some d r x =
      sym (ap (first_from d) settled ∙ first_span (chooses p s) d s e ∙ ap head_of (first_in (chooses p s) (max s d) e r x ∙ found (chooses p s) r e x.high x.found))

  pub first_none : (d : ℕ) → NoneIn (chooses p s) (max s d) e → None ≡ first_from d (days_of p s u c)
  first_none d x =
      sym (ap (first_from d) settled ∙ first_span (chooses p s) d s e ∙ ap head_of (empty (chooses p s) (max s d) e x))

  pub first_is : (d : ℕ) (o : Option ℕ) → First (chooses p s) (max s d) e o → o ≡ first_from d (days_of p s u c)
  first_is d None x = first_none d x
  first_is d (Some r) x = first_some d r x

  pub before_is : (d : ℕ) → before d (days_of p s u c) ≡ span (chooses p s) s (min e d)
  before_is d = ap (before d) settled ∙ before_span (chooses p s) d s e

  pub since_is : (d r : ℕ) → FirstIs (chooses p s) (max s d) e r → since d (days_of p s u c) ≡ span (chooses p s) r e
  since_is d r x = ap (since d) settled ∙ since_span (chooses p s) d s e ∙ first_in (chooses p s) (max s d) e r x

  -- the head with COUNT
  pub head_settled : (d m n : ℕ) → m ≡ min e d → e ≤ stop u → n ≡ length (span (chooses p s) s m) → days_of p s u (Some n) ≡ span (chooses p s) s m
  head_settled d m n em h q = ap (λ k. take k (span (chooses p s) s (stop u))) q ∙ taken_span (chooses p s) s m (stop u) (omega arith)

  -- the tail
  pub tail_none : (d : ℕ) → NoneIn (chooses p s) (max s d) e → [] ≡ since d (days_of p s u c)
  tail_none d x = sym (ap (since d) settled ∙ since_span (chooses p s) d s e ∙ empty (chooses p s) (max s d) e x)

  pub like : (r b : ℕ) → chooses p s r ≡ true → span (chooses p r) r b ≡ span (chooses p s) r b
  like r b t = alike (chooses p r) (chooses p s) r (b - r) (moved p s r t)

  pub tail_settled : (d r n : ℕ) → FirstIs (chooses p s) (max s d) e r → e ≤ stop u → n ≡ length (span (chooses p s) r e)
      → days_of p r u (Some n) ≡ span (chooses p r) r e
  tail_settled d r n x h q =
      let t = x.found in
      ap (λ xs. take n xs) (like r (stop u) t) ∙ ap (λ k. take k (span (chooses p s) r (stop u))) q
      ∙ taken_span (chooses p s) r e (stop u) h ∙ sym (like r e t)

-- without COUNT
module _ (p : Option Pattern) (s : ℕ) (u : Option ℕ) (e : ℕ) (settled : days_of p s u None ≡ span (chooses p s) s e) where
  until_is : (d m : ℕ) (v : Option ℕ) → m ≡ min e d → stop v ≡ min (stop u) d → days_of p s v None ≡ span (chooses p s) s m
  until_is d m v em q =
      ap (span (chooses p s) s) q ∙ sym (before_span (chooses p s) d s (stop u)) ∙ before_is p s u None e settled d ∙ ap (span (chooses p s) s) (sym em)

  open_is : (d r : ℕ) → FirstIs (chooses p s) (max s d) e r → days_of p r u None ≡ span (chooses p r) r e
  open_is d r x =
      let t = x.found in
      let b = x.low in
      let k : max s r ≡ r = omega arith in
      let m : span (chooses p s) (max s r) (stop u) ≡ span (chooses p s) (max s r) e =
      sym (since_span (chooses p s) r s (stop u)) ∙ ap (since r) settled ∙ since_span (chooses p s) r s e in
      like p s u None e settled r (stop u) t ∙ rw k at m ∙ sym (like p s u None e settled r e t)

stop_lowered : (u : Option ℕ) (d : ℕ) → stop (lowered u d) ≡ min (stop u) d
stop_lowered None d =
    ⊎_elim (λ (l : last_day < d). rw (lt-leb d last_day l) (omega arith)) (λ (l : d ≤ last_day). rw (le-leb d last_day l) (omega arith)) (cases_lt last_day d)
stop_lowered (Some k) d = omega arith

pub stop_before : (c u : Option ℕ) (d : ℕ) → min (stop u) d ≤ stop (reuntil c u d)
stop_before None u d = omega (arith, stop_lowered u d)
stop_before (Some k) u d = omega arith

-- with COUNT and without
pub head_list : (p : Option Pattern) (s : ℕ) (u c : Option ℕ) (e : ℕ) → days_of p s u c ≡ span (chooses p s) s e → e ≤ stop u
    → (d m : ℕ) → m ≡ min e d → days_of p s (reuntil c u d) (recount c (span (chooses p s) s m)) ≡ span (chooses p s) s m
head_list p s u None e settled h d m em = until_is p s u e settled d m (lowered u d) em (stop_lowered u d)
head_list p s u (Some k) e settled h d m em = head_settled p s u (Some k) e settled d m _ em h refl

pub tail_list : (p : Option Pattern) (s : ℕ) (u c : Option ℕ) (e : ℕ) → days_of p s u c ≡ span (chooses p s) s e → e ≤ stop u
    → (d r : ℕ) → FirstIs (chooses p s) (max s d) e r → days_of p r u (recount c (span (chooses p s) r e)) ≡ span (chooses p r) r e
tail_list p s u None e settled h d r x = open_is p s u e settled d r x
tail_list p s u (Some k) e settled h d r x = tail_settled p s u (Some k) e settled d r _ x h refl

-- ---- the parts of a cut

-- the days before d and those from d on are all
halves : (d : ℕ) (xs : List ℕ) → length xs ≡ length (before d xs) + length (since d xs)
halves d xs = sym (length-filter_both (λ x. ltb x d) (λ x. leb d x) (λ x. turned x d) xs)
  where
    turned : (x d : ℕ) → nat_le d x ≡ not (nat_lt x d)
    turned x d =
        ⊎_elim (λ (l : x < d). lt-leb d x l ∙ sym (ap not (lt-ltb x d l))) (λ (l : d ≤ x). le-leb d x l ∙ sym (ap not (le-ltb x d l))) (cases_lt x d)

pub halves_by : (d : ℕ) (xs ys : List ℕ) → ys ≡ since d xs → length xs ≡ length (before d xs) + length ys
halves_by d xs ys e = halves d xs ∙ ap (λ zs. length (before d xs) + length zs) (sym e)

recounted : (c : Option ℕ) (xs ys : List ℕ) → xs ≡ ys → recount c xs ≡ recount (recount c xs) ys
recounted None xs ys q = refl
recounted (Some k) xs ys q = ap (λ zs. Some (length zs)) q

pub counted : (c n : Option ℕ) (xs ys : List ℕ) → n ≡ recount c xs → xs ≡ ys → n ≡ recount n ys
counted c n xs ys e q = e ∙ recounted c xs ys q ∙ ap (λ (o : Option ℕ). recount o ys) (sym e)

pub at_none : (o : Option ℕ) (P : Type 0) (Q : ℕ → Type 0) → None ≡ o → P → MatchOption o P Q
at_none o P Q e p = subst (λ (x : Option ℕ). MatchOption x P Q) e p

pub at_some : (o : Option ℕ) (P : Type 0) (Q : ℕ → Type 0) (r : ℕ) → Some r ≡ o → Q r → MatchOption o P Q
at_some o P Q r e q = subst (λ (x : Option ℕ). MatchOption x P Q) e q
