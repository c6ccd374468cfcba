-- COUNT after a cut: no more than before, and never beside a last day but where no day is left.
use Rattle.std.proofs.Common.{◌≡◌, ℕ, zero, suc, ◌<◌, ◌≤◌, Bool, true, List, [], ◌∷◌, length, take, Some, None, Option, refl, ap, ⊎_elim, arith, length-append}
use Rattle.std.proofs.lemmas.Bool.{cases_lt, leb-true, le-leb, eqb-true, eq-eqb}
use Rattle.recurrence.specs.declared.parts.Pattern.{Pattern}
use Rattle.rule.specs.Spans.{span, stop}
use Rattle.rule.specs.Lists.{chooses, days_of}
use Rattle.rule.specs.Bounds.{count_fits, one_end}
use Rattle.rule.specs.Cut.{recount, lowered, reuntil}
use Rattle.rule.specs.SpansLemmas.{split, void}

few_taken : (k : ℕ) (xs : List ℕ) → length (take k xs) ≤ k
few_taken zero xs = omega arith
few_taken (suc k) [] = omega arith
few_taken (suc k) (x ∷ xs) = omega (arith, few_taken k xs)

-- an earlier end, or a later beginning, leaves no more days
pub shorter : (f : ℕ → Bool) (a b c : ℕ) → b ≤ c → length (span f a b) ≤ length (span f a c)
shorter f a b c h =
    ⊎_elim
    (λ (l : a < b). omega (arith, ap length (split f a b c (omega arith) h), length-append (span f a b) (span f b c)))
    (λ (l : b ≤ a). omega (arith, ap length (void f a b l)))
    (cases_lt a b)

pub later : (f : ℕ → Bool) (a b c : ℕ) → a ≤ b → b ≤ c → length (span f b c) ≤ length (span f a c)
later f a b c h l = omega (arith, ap length (split f a b c h l), length-append (span f a b) (span f b c))

-- n is no more than COUNT
abbrev pub AtMost : Option ℕ → ℕ → Type 0
AtMost None n = Unit {0}
AtMost (Some k) n = n ≤ k

pub listed_few : (p : Option Pattern) (s : ℕ) (u c : Option ℕ) (e n : ℕ) → days_of p s u c ≡ span (chooses p s) s e
    → n ≤ length (span (chooses p s) s e) → AtMost c n
listed_few p s u None e n settled h = tt
listed_few p s u (Some k) e n settled h = omega (arith, ap length settled, few_taken k (span (chooses p s) s (stop u)))

pub count_few : (c : Option ℕ) (xs : List ℕ) → count_fits c ≡ true → AtMost c (length xs) → count_fits (recount c xs) ≡ true
count_few None xs f a = refl
count_few (Some k) xs f a = le-leb (length xs) 10000 (omega (arith, leb-true k 10000 f))

pub tail_end : (u c : Option ℕ) (xs : List ℕ) → one_end u c ≡ true → AtMost c (length xs) → one_end u (recount c xs) ≡ true
tail_end None c xs o a = refl
tail_end (Some d) None xs o a = refl
tail_end (Some d) (Some k) xs o a = eq-eqb (length xs) 0 (omega (arith, eqb-true k 0 o))

open_end : (u : Option ℕ) → one_end u None ≡ true
open_end None = refl
open_end (Some d) = refl

pub head_end : (u c : Option ℕ) (d : ℕ) (xs : List ℕ) → one_end u c ≡ true → AtMost c (length xs) → one_end (reuntil c u d) (recount c xs) ≡ true
head_end u None d xs o a = open_end (lowered u d)
head_end u (Some k) d xs o a = tail_end u (Some k) xs o a
