-- An ordinal counts the like weekdays.
use Rattle.std.proofs.Common.{◌≡◌, ℕ, zero, suc, ◌+◌, ◌-◌, ◌/◌, ◌%◌, ◌<◌, ◌≤◌, Bool, true, false, cond, eqb, length, sym, refl, ap, ◌∙◌, ⊎_elim, arith, length-append}
use Rattle.std.proofs.lemmas.Bool.Decides.{eqb_tells}
use Rattle.calendar.specs.Dates.{day_of}
use Rattle.calendar.proofs.Dating.{dated}
use Rattle.rule.specs.Spans.{span}
use Rattle.pattern.specs.Picks.{lead, rest}
use Rattle.rule.specs.Meaning.{like_days, Ordinals}
use Rattle.rule.specs.SpansLemmas.{split, found, skip, void}

abbrev like : ℕ → ℕ → Bool
like d k = eqb (k % 7) (d % 7)

-- one day more or none
one_more : (d a b : ℕ) → a < b → like_days d a b ≡ cond (like d a) 1 0 + like_days d (a + 1) b
one_more d a b l =
    ⊎_elim
    (λ t. rw t.0 (ap length (found (like d) a b l t.0) ∙ (let e : suc (like_days d (a + 1) b) ≡ 1 + like_days d (a + 1) b = omega arith in e)))
    (λ t. rw t.0 (ap length (skip (like d) a (a + 1) b (omega arith) (omega arith) (λ k p q. let e : a ≡ k = omega arith in rw e at t.0))
    ∙ (let e : like_days d (a + 1) b ≡ 0 + like_days d (a + 1) b = omega arith in e)))
    (eqb_tells (a % 7) (d % 7))

back : (d n : ℕ) → n ≤ d → like_days d (d - n) (d + 1) ≡ n / 7 + 1
back d zero h =
    let e : d - 0 ≡ d = omega arith in
    let v : like_days d (d + 1) (d + 1) ≡ 0 = ap length (void (like d) (d + 1) (d + 1) (omega arith)) in
    rw e (⊎_elim (λ t. omega (arith, rw t.0 at (one_more d d (d + 1) (omega arith)))) (λ t. absurd (t.1 refl)) (eqb_tells (d % 7) (d % 7)))
back d (suc n) h =
    let e : d - suc n + 1 ≡ d - n = omega arith in
    let i = back d n (omega arith) in
    let m = rw e at (one_more d (d - suc n) (d + 1) (omega arith)) in
    ⊎_elim (λ t. omega (arith, rw t.0 at m, t.1)) (λ t. omega (arith, rw t.0 at m, t.1)) (eqb_tells ((d - suc n) % 7) (d % 7))

last_one : (d b : ℕ) → like_days d b (b + 1) ≡ cond (like d b) 1 0
last_one d b =
    let v : like_days d (b + 1) (b + 1) ≡ 0 = ap length (void (like d) (b + 1) (b + 1) (omega arith)) in
    omega (arith, one_more d b (b + 1) (omega arith))

on : (d n : ℕ) → like_days d d (d + n + 1) ≡ n / 7 + 1
on d zero =
    let e : d + 0 + 1 ≡ d + 1 = omega arith in
    rw e (⊎_elim (λ t. omega (arith, rw t.0 at (last_one d d))) (λ t. absurd (t.1 refl)) (eqb_tells (d % 7) (d % 7)))
on d (suc n) =
    let i = on d n in
    let s : like_days d d (d + suc n + 1) ≡ like_days d d (d + n + 1) + like_days d (d + n + 1) (d + suc n + 1) =
    ap length (split (like d) d (d + n + 1) (d + suc n + 1) (omega arith) (omega arith)) ∙ length-append (span (like d) d (d + n + 1)) (span (like d) (d + n + 1) (d + suc n + 1)) in
    let e : d + n + 1 + 1 ≡ d + suc n + 1 = omega arith in
    let o = rw e at (last_one d (d + n + 1)) in
    ⊎_elim (λ t. omega (arith, rw t.0 at o, t.1)) (λ t. omega (arith, rw t.0 at o, t.1)) (eqb_tells ((d + n + 1) % 7) (d % 7))

lead_low : (month : Bool) (d : ℕ) → d < 109573 → lead month d ≤ d
unfolding day_of
lead_low true d h = omega (arith, (dated d h).sum)
lead_low false d h = omega arith

pub ordinals : Ordinals
ordinals month d h = (sym (back d (lead month d) (lead_low month d h)), sym (on d (rest month d)))
