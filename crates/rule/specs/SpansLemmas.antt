-- Spans of days, and where a day cuts them.
use Rattle.std.specs.Prelude.{◌≡◌, ℕ, zero, suc, ◌+◌, ◌-◌, ◌<◌, ◌≤◌, min, max, Bool, true, false, ltb, List, [], ◌∷◌, ◌++◌, length, take, nat_lt, refl}
use Rattle.std.proofs.Common.{sym, ap, ◌∙◌, ⊎_elim, arith}
use Rattle.std.proofs.lemmas.Bool.{cases_lt, cases_Bool, lt-ltb, le-ltb, lt-leb}
use Rattle.std.specs.List.{AllByRecursion}
use Rattle.std.proofs.ByRecursion.{All-weaker}
use Rattle.source.specs.Days.{Ascending, head_of, first_from, before, since}
use Rattle.source.specs.Kept.{kept_none}
use Rattle.source.specs.Ascents.{since_whole}
use Rattle.rule.specs.Spans.{chosen, span}

-- ---- the list of the days from a on

chosen_in : (f : ℕ → Bool) (a n : ℕ) → f a ≡ true → chosen f a (suc n) ≡ a ∷ chosen f (suc a) n
chosen_in f a n t = rw t

chosen_out : (f : ℕ → Bool) (a n : ℕ) → f a ≡ false → chosen f a (suc n) ≡ chosen f (suc a) n
chosen_out f a n t = rw t

-- the days from a on lie from a on
pub from : (f : ℕ → Bool) (a n : ℕ) → AllByRecursion (λ x. a ≤ x) (chosen f a n)
from f a zero = tt
from f a (suc n) =
    let more = All-weaker (λ x. suc a ≤ x) (λ x. a ≤ x) (λ x h. omega arith) (chosen f (suc a) n) (from f (suc a) n) in
    ⊎_elim (λ t. rw t (omega arith, more)) (λ t. rw t more) (cases_Bool (f a))

-- and before the end
pub until : (f : ℕ → Bool) (a n e : ℕ) → a + n ≤ e → AllByRecursion (λ x. x < e) (chosen f a n)
until f a zero e h = tt
until f a (suc n) e h =
    let more = until f (suc a) n e (omega arith) in
    ⊎_elim (λ t. rw t (omega arith, more)) (λ t. rw t more) (cases_Bool (f a))

pub ascends : (f : ℕ → Bool) (a n : ℕ) → Ascending (chosen f a n)
ascends f a zero = tt
ascends f a (suc n) =
    let more = All-weaker (λ x. suc a ≤ x) (λ x. a < x) (λ x h. omega arith) (chosen f (suc a) n) (from f (suc a) n) in
    ⊎_elim (λ t. rw t (more, ascends f (suc a) n)) (λ t. rw t (ascends f (suc a) n)) (cases_Bool (f a))

-- two tests that agree
pub alike : (f g : ℕ → Bool) (a n : ℕ) → ((k : ℕ) → f k ≡ g k) → chosen f a n ≡ chosen g a n
alike f g a zero e = refl
alike f g a (suc n) e =
    ⊎_elim
    (λ t. let u : g a ≡ true = sym (e a) ∙ t in rw (t, u) (ap (λ xs. a ∷ xs) (alike f g (suc a) n e)))
    (λ t. let u : g a ≡ false = sym (e a) ∙ t in rw (t, u) (alike f g (suc a) n e))
    (cases_Bool (f a))

-- ---- cut in two

join : (f : ℕ → Bool) (a m n : ℕ) → chosen f a (m + n) ≡ chosen f a m ++ chosen f (a + m) n
join f a zero n = let e : 0 + n ≡ n = omega arith in let g : a + 0 ≡ a = omega arith in rw (e, g)
join f a (suc m) n =
    let e : suc m + n ≡ suc (m + n) = omega arith in
    let g : suc a + m ≡ a + suc m = omega arith in
    let i : chosen f (suc a) (m + n) ≡ chosen f (suc a) m ++ chosen f (a + suc m) n = rw g at (join f (suc a) m n) in
    rw e (⊎_elim (λ t. rw t (ap (λ xs. a ∷ xs) i)) (λ t. rw t i) (cases_Bool (f a)))

pub split : (f : ℕ → Bool) (a b c : ℕ) → a ≤ b → b ≤ c → span f a c ≡ span f a b ++ span f b c
split f a b c h g =
    let e : c - a ≡ (b - a) + (c - b) = omega arith in
    let k : a + (b - a) ≡ b = omega arith in
    rw e (rw k at (join f a (b - a) (c - b)))

none_picked : (f : ℕ → Bool) (a n : ℕ) → ((k : ℕ) → a ≤ k → k < a + n → f k ≡ false) → chosen f a n ≡ []
none_picked f a zero h = refl
none_picked f a (suc n) h =
    chosen_out f a n (h a (omega arith) (omega arith)) ∙ none_picked f (suc a) n (λ k l u. h k (omega arith) (omega arith))

-- days that do not pass are left out
pub skip : (f : ℕ → Bool) (a b c : ℕ) → a ≤ b → b ≤ c → ((k : ℕ) → a ≤ k → k < b → f k ≡ false) → span f a c ≡ span f b c
skip f a b c l m h = split f a b c l m ∙ ap (λ xs. xs ++ span f b c) (none_picked f a (b - a) (λ k p q. h k p (omega arith)))

pub empty : (f : ℕ → Bool) (a b : ℕ) → ((k : ℕ) → a ≤ k → k < b → f k ≡ false) → span f a b ≡ []
empty f a b h = none_picked f a (b - a) (λ k p q. h k p (omega arith))

pub found : (f : ℕ → Bool) (b c : ℕ) → b < c → f b ≡ true → span f b c ≡ b ∷ span f (b + 1) c
found f b c l t =
    let e : c - b ≡ suc (c - (b + 1)) = omega arith in
    let g : suc b ≡ b + 1 = omega arith in
    rw e (chosen_in f b (c - (b + 1)) t ∙ ap (λ x. b ∷ chosen f x (c - (b + 1))) g)

pub void : (f : ℕ → Bool) (b c : ℕ) → c ≤ b → span f b c ≡ []
void f b c l = let e : c - b ≡ 0 = omega arith in rw e

-- ---- before and since

before_chosen : (f : ℕ → Bool) (d a n : ℕ) → before d (chosen f a n) ≡ chosen f a (min (a + n) d - a)
before_chosen f d a zero = let e : min (a + 0) d - a ≡ 0 = omega arith in rw e
before_chosen f d a (suc n) =
    ⊎_elim
    (λ l.
    let e : min (a + suc n) d - a ≡ suc (min (suc a + n) d - suc a) = omega arith in
    rw e
    (⊎_elim (λ t. rw t (rw (lt-ltb a d l) (ap (λ xs. a ∷ xs) (before_chosen f d (suc a) n)))) (λ t. rw t (before_chosen f d (suc a) n)) (cases_Bool (f a))))
    (λ g.
    let e : min (a + suc n) d - a ≡ 0 = omega arith in
    rw e (kept_none (λ x. ltb x d) (chosen f a (suc n)) (All-weaker (λ x. a ≤ x) (λ x. nat_lt x d ≡ false) (λ x h. le-ltb x d (omega arith)) (chosen f a (suc n)) (from f a (suc n)))))
    (cases_lt a d)

pub before_span : (f : ℕ → Bool) (d a b : ℕ) → before d (span f a b) ≡ span f a (min b d)
before_span f d a b =
    let e : min (a + (b - a)) d - a ≡ min b d - a = omega arith in before_chosen f d a (b - a) ∙ ap (chosen f a) e

since_chosen : (f : ℕ → Bool) (d a n : ℕ) → since d (chosen f a n) ≡ chosen f (max a d) (a + n - max a d)
since_chosen f d a zero = let e : a + 0 - max a d ≡ 0 = omega arith in rw e
since_chosen f d a (suc n) =
    ⊎_elim
    (λ l.
    let e : max (suc a) d ≡ max a d = omega arith in
    let g : suc a + n - max a d ≡ a + suc n - max a d = omega arith in
    let i : since d (chosen f (suc a) n) ≡ chosen f (max a d) (a + suc n - max a d) = rw (e, g) at (since_chosen f d (suc a) n) in
    ⊎_elim (λ t. rw t (rw (lt-leb d a l) i)) (λ t. rw t i) (cases_Bool (f a)))
    (λ g.
    let e : max a d ≡ a = omega arith in
    let k : a + suc n - a ≡ suc n = omega arith in
    rw (e, k) (since_whole d (chosen f a (suc n)) (All-weaker (λ x. a ≤ x) (λ x. d ≤ x) (λ x h. omega arith) (chosen f a (suc n)) (from f a (suc n)))))
    (cases_lt a d)

pub since_span : (f : ℕ → Bool) (d a b : ℕ) → since d (span f a b) ≡ span f (max a d) b
since_span f d a b =
    ⊎_elim
    (λ l. let e : a + (b - a) - max a d ≡ b - max a d = omega arith in since_chosen f d a (b - a) ∙ ap (chosen f (max a d)) e)
    (λ g. let e : b - a ≡ 0 = omega arith in let k : b - max a d ≡ 0 = omega arith in rw (e, k))
    (cases_lt a b)

pub first_span : (f : ℕ → Bool) (d a b : ℕ) → first_from d (span f a b) ≡ head_of (span f (max a d) b)
first_span f d a b = ap head_of (since_span f d a b)

-- ---- COUNT

taken_all : (xs ys : List ℕ) → take (length xs) (xs ++ ys) ≡ xs
taken_all [] ys = refl
taken_all (x ∷ xs) ys = ap (λ zs. x ∷ zs) (taken_all xs ys)

-- the days up to c, of which there are just so many, are the first so many
pub taken_span : (f : ℕ → Bool) (a b c : ℕ) → b ≤ c → take (length (span f a b)) (span f a c) ≡ span f a b
taken_span f a b c h =
    ⊎_elim (λ l. rw (split f a b c (omega arith) h) (taken_all (span f a b) (span f b c)))
    (λ l. rw (void f a b l) refl) (cases_lt a b)
