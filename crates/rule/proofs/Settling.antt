-- A list of chosen days by one listing, and the first so many of it.
use Rattle.std.specs.Prelude.{◌≡◌, ℕ, zero, suc, ◌+◌, ◌-◌, ◌<◌, ◌≤◌, min, Bool, true, false, List, [], ◌∷◌, length, take, Some, None, Option, MatchOption, slice_get, refl}
use Rattle.std.proofs.Common.{sym, ap, ◌∙◌, subst, ⊎_elim, arith}
use Rattle.std.specs.Iterator.{Yields, YieldsFirst, SkipsThenYields}
use Rattle.std.proofs.lemmas.List.{take_all}
use Rattle.std.proofs.lemmas.Bool.{cases_Bool}
use Rattle.pattern.specs.First.{FirstIs}
use Rattle.rule.specs.Spans.{chosen, span}
use Rattle.rule.specs.SpansLemmas.{skip, found, void}

pub next_in : (f : ℕ → Bool) (a e r : ℕ) → FirstIs f a e r → span f a e ≡ r ∷ span f (r + 1) e
next_in f a e r x = let b = x.high in skip f a r e x.low (omega arith) x.passed ∙ found f r e x.high x.found

-- what a listing gives after so many days
pub nth_given : {S : Type 0} (rest : S → List ℕ) (k : ℕ) (s t u : S) (xs : List ℕ) (r : Option ℕ) → Yields (YieldsFirst rest) s xs t → YieldsFirst rest t r u
    → MatchOption r (length xs ≤ k) (λ _. length xs ≡ k) → r ≡ slice_get (rest s) k
nth_given rest k s t u [] None y z h = let e : rest s ≡ [] = ap rest y ∙ z.0 in rw e refl
nth_given rest k s t u [] (Some x) y z h = let e : rest s ≡ x ∷ rest u = ap rest y ∙ z in let i : k ≡ 0 = omega arith in rw (e, i) refl
nth_given rest zero s t u (x ∷ xs) None y z h = absurd (omega arith)
nth_given rest zero s t u (x ∷ xs) (Some v) y z h = absurd (omega arith)
nth_given rest (suc k) s t u (x ∷ xs) None y z h = let e = y.1 in rw e (nth_given rest k y.0 t u xs None y.2 z (omega arith))
nth_given rest (suc k) s t u (x ∷ xs) (Some v) y z h = let e = y.1 in rw e (nth_given rest k y.0 t u xs (Some v) y.2 z (omega arith))

-- after the day at a place the list goes on
abbrev Cut : (ℕ → Bool) → ℕ → ℕ → ℕ → ℕ → Type 0
Cut f a n k x = (a ≤ x) × (x < a + n) × (take (k + 1) (chosen f a n) ≡ span f a (x + 1))

cut_out : (f : ℕ → Bool) (a n k x : ℕ) → f a ≡ false → Cut f (suc a) n k x → Cut f a (suc n) k x
cut_out f a n k x t i =
    rw t (
      omega (arith, i.0),
      omega (arith, i.1),
      i.2 ∙ sym (skip f a (suc a) (x + 1) (omega arith) (omega (arith, i.0)) (λ j l m. let w : a ≡ j = omega arith in subst (λ (y : ℕ). f y ≡ false) w t)),
    )

cut_first : (f : ℕ → Bool) (a n : ℕ) → f a ≡ true → Cut f a (suc n) 0 a
cut_first f a n t =
    rw t (omega arith, omega arith, sym (found f a (a + 1) (omega arith) t ∙ ap (λ xs. a ∷ xs) (void f (a + 1) (a + 1) (omega arith))))

cut_later : (f : ℕ → Bool) (a n k x : ℕ) → f a ≡ true → Cut f (suc a) n k x → Cut f a (suc n) (suc k) x
cut_later f a n k x t i =
    let w : suc a ≡ a + 1 = omega arith in
    let z : suc k + 1 ≡ suc (k + 1) = omega arith in
    rw (t, z) (omega (arith, i.0), omega (arith, i.1), ap (λ xs. a ∷ xs) i.2 ∙ ap (λ b. a ∷ span f b (x + 1)) w ∙ sym (found f a (x + 1) (omega (arith, i.0)) t))

cut_at : (f : ℕ → Bool) (a n k x : ℕ) → slice_get (chosen f a n) k ≡ Some x → Cut f a n k x
cut_at f a zero k x e = let z : ◌≡◌ {A = Option ℕ} None (Some x) = e in cc
cut_at f a (suc n) zero x e =
    ⊎_elim
    (λ t.
    let g : Some a ≡ Some x = rw t at e in
    let w : a ≡ x = cc in
    subst (λ (y : ℕ). Cut f a (suc n) 0 y) w (cut_first f a n t))
    (λ t. let g : slice_get (chosen f (suc a) n) 0 ≡ Some x = rw t at e in cut_out f a n 0 x t (cut_at f (suc a) n 0 x g))
    (cases_Bool (f a))
cut_at f a (suc n) (suc k) x e =
    ⊎_elim
    (λ t. let g : slice_get (chosen f (suc a) n) k ≡ Some x = rw t at e in cut_later f a n k x t (cut_at f (suc a) n k x g))
    (λ t. let g : slice_get (chosen f (suc a) n) (suc k) ≡ Some x = rw t at e in cut_out f a n (suc k) x t (cut_at f (suc a) n (suc k) x g))
    (cases_Bool (f a))

none_at : (k : ℕ) (xs : List ℕ) → slice_get xs k ≡ None → length xs ≤ k
none_at k [] e = omega arith
none_at zero (x ∷ xs) e = let z : ◌≡◌ {A = Option ℕ} (Some x) None = e in cc
none_at (suc k) (x ∷ xs) e = let i = none_at k xs e in omega (arith, i)

-- where the first so many end, by the last of them
pub settled_at : (f : ℕ → Bool) (s stop c : ℕ) (r : Option ℕ) → 0 < c → r ≡ slice_get (span f s stop) (c - 1)
    → MatchOption r (take c (span f s stop) ≡ span f s stop) (λ x. (x < stop) × (take c (span f s stop) ≡ span f s (x + 1)))
settled_at f s stop c None h e =
    let i = none_at (c - 1) (span f s stop) (sym e) in
    take_all c (span f s stop) (omega (arith, i))
settled_at f s stop c (Some x) h e =
    let i = cut_at f s (stop - s) (c - 1) x (sym e) in
    let z : c - 1 + 1 ≡ c = omega arith in
    (omega (arith, i.0, i.1), rw z at i.2)

pub settled_by : {S : Type 0} (rest : S → List ℕ) (d u : S) (f : ℕ → Bool) (s stop c : ℕ) (r : Option ℕ) → (c ≡ 0 → ⊥) → rest d ≡ span f s stop
    → SkipsThenYields (YieldsFirst rest) d (c - 1) r u
    → MatchOption r (take c (span f s stop) ≡ span f s stop) (λ x. (x < stop) × (take c (span f s stop) ≡ span f s (x + 1)))
settled_by rest d u f s stop c r h e y =
    settled_at f s stop c r (omega (arith, h)) (nth_given rest (c - 1) d y.1.0 u y.0 r y.1.1 y.1.2 y.2 ∙ ap (λ xs. slice_get xs (c - 1)) e)

-- none of them
pub settled_none : (f : ℕ → Bool) (s stop c : ℕ) → c ≡ 0 → take c (span f s stop) ≡ span f s (min s stop)
settled_none f s stop c z = rw z (sym (void f s (min s stop) (omega arith)))

few_chosen : (f : ℕ → Bool) (a n : ℕ) → length (chosen f a n) ≤ n
few_chosen f a zero = omega arith
few_chosen f a (suc n) =
    let more = few_chosen f (suc a) n in
    ⊎_elim (λ t. rw t (omega (arith, more))) (λ t. rw t (omega (arith, more))) (cases_Bool (f a))

pub few_in : (f : ℕ → Bool) (a e : ℕ) → e ≤ 109573 → length (span f a e) ≤ 109573
few_in f a e h = let few = few_chosen f a (e - a) in omega (arith, few)
