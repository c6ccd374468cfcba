-- Intervals by their spelling: what is read was spelled so, and what is spelled so is read.
use Rattle.std.proofs.Common.{◌≡◌, ℕ, List, [], ◌∷◌, ◌++◌, Some, Ok, Option, Result, refl, ap, ◌∙◌, subst, ⊎_elim, arith}
use Rattle.std.proofs.lemmas.Bool.{eq-eqb}
use Rattle.std.proofs.lemmas.Bool.Decides.{eqb_tells}
use Rattle.calendar.specs.declared.starts.Moment.{Moment}
use Rattle.refusal.specs.declared.Refusal.{Refusal}
use Rattle.notation.specs.declared.intervals.Spelled.{Spelled}
use Rattle.notation.specs.Dates.{moment_named}
use Rattle.notation.specs.Digits.{number, numeral}
use Rattle.notation.specs.Fields.{cut_at, formed, and_then}
use Rattle.notation.specs.Intervals.{lettered, repeat_named, ended, period_named, interval_named}
use Rattle.notation.specs.Spelling.{Writes, SpellsMoment, SpellsInterval, Spelling}
use Rattle.notation.proofs.Answering.{err_ok, both, was_formed}
use Rattle.notation.proofs.Cuts.{cut_joins, cut_finds}
use Rattle.notation.proofs.Moments.{moment_from, moment_is_named, moment_lacks}
use Rattle.notation.proofs.Numbering.{writes_from, numeral_from, digits_lack, digits_lack_slash}

number_from : (xs : List ℕ) (n : ℕ) → number xs ≡ Ok n → Writes 1 5 xs n
number_from xs n e = writes_from 1 5 xs n (was_formed (numeral 1 5 xs) n e)

number_named : (xs : List ℕ) (n : ℕ) → Writes 1 5 xs n → number xs ≡ Ok n
number_named xs n w = ap formed (numeral_from 1 5 xs n w)

-- a letter and a number
record Lettered (letter : ℕ) (xs : List ℕ) (n : ℕ) : Type 0 where
  digits : List ℕ
  text : xs ≡ letter ∷ digits
  written : Writes 1 5 digits n

letter_from : (letter : ℕ) (xs : List ℕ) (n : ℕ) → lettered letter xs ≡ Ok n → Lettered letter xs n
letter_from letter [] n e = absurd (err_ok _ n e)
letter_from letter (x ∷ xs) n e =
    ⊎_elim
    (λ t. record { digits = xs; text = ap (λ y. y ∷ xs) t.1; written = number_from xs n (rw t.0 at e) })
    (λ f. absurd (err_ok _ n (rw f.0 at e)))
    (eqb_tells x letter)

letter_named : (letter : ℕ) (xs : List ℕ) (n : ℕ) → Writes 1 5 xs n → lettered letter (letter ∷ xs) ≡ Ok n
letter_named letter xs n w = rw (eq-eqb letter letter refl) (number_named xs n w)

-- PmD
record Period (xs : List ℕ) (n : ℕ) : Type 0 where
  digits : List ℕ
  text : xs ≡ (80 ∷ digits) ++ (68 ∷ [])
  written : Writes 1 5 digits n

was_ended : (ys xs zs : List ℕ) → ended ys xs ≡ Ok zs → (ys ≡ []) × (xs ≡ zs)
was_ended [] xs zs e = (refl, cc)
was_ended (y ∷ ys) xs zs e = absurd (err_ok _ zs e)

period_from : (xs : List ℕ) (n : ℕ) → period_named xs ≡ Ok n → Period xs n
period_from xs n e =
    both (formed (cut_at 68 xs)) _ n e (λ p cut f.
    both (ended p.1 p.0) (lettered 80) n f (λ a end g.
    let w = was_ended p.1 p.0 a end in
    let l = letter_from 80 a n g in
    record {
      digits = l.digits;
      text = cut_joins 68 xs p.0 p.1 (was_formed (cut_at 68 xs) p cut) ∙ (λ j. (w.1 ∙ l.text) j ++ (68 ∷ w.0 j));
      written = l.written;
    }))

period_is_named : (xs : List ℕ) (n : ℕ) → Writes 1 5 xs n → period_named ((80 ∷ xs) ++ (68 ∷ [])) ≡ Ok n
period_is_named xs n w =
    let c : cut_at 68 ((80 ∷ xs) ++ (68 ∷ [])) ≡ Some (80 ∷ xs, []) = cut_finds 68 (80 ∷ xs) [] ((λ e. omega (arith, e)), digits_lack 68 xs (omega arith) w.digits) in
    ap (λ (o : Option (List ℕ × List ℕ)). and_then (formed o) (λ p. and_then (ended p.1 p.0) (lettered 80))) c ∙ letter_named 80 xs n w

-- the interval of its parts
made : (xs a b c d : List ℕ) (n k : ℕ) (s : Moment) (v : Spelled) → cut_at 47 xs ≡ Some (a, b) → cut_at 47 b ≡ Some (c, d) → repeat_named a ≡ Ok n → period_named d ≡ Ok k → moment_named c ≡ Ok s
    → ◌≡◌ {A = Result Spelled Refusal} (Ok (record { count = n; start = s; step = k })) (Ok v) → SpellsInterval xs v
made xs a b c d n k s v first second repeat period moment e =
    let q : ◌≡◌ {A = Spelled} (record { count = n; start = s; step = k }) v = cc in
    let r = letter_from 82 a n repeat in
    let p = period_from d k period in
    let m = moment_from c s moment in
    record {
      count = r.digits;
      moment = c;
      step = p.digits;
      text = cut_joins 47 xs a b first ∙ (λ j. r.text j ++ (47 ∷ (cut_joins 47 b c d second ∙ ap (λ ys. c ++ (47 ∷ ys)) p.text) j));
      counted = subst (λ (w : Spelled). Writes 1 5 r.digits w.count) q r.written;
      begun = subst (λ (w : Spelled). SpellsMoment c w.start) q m;
      stepped = subst (λ (w : Spelled). Writes 1 5 p.digits w.step) q p.written;
    }

interval_from : (xs : List ℕ) (v : Spelled) → interval_named xs ≡ Ok v → SpellsInterval xs v
interval_from xs v e =
    both (formed (cut_at 47 xs)) _ v e (λ p first f.
    both (formed (cut_at 47 p.1)) _ v f (λ q second g.
    both (repeat_named p.0) _ v g (λ n repeat h.
    both (period_named q.1) _ v h (λ k period i.
    both (moment_named q.0) _ v i (λ s moment l.
    made xs p.0 p.1 q.0 q.1 n k s v (was_formed (cut_at 47 xs) p first) (was_formed (cut_at 47 p.1) q second) repeat period moment l)))))

interval_is_named : (xs : List ℕ) (v : Spelled) → SpellsInterval xs v → interval_named xs ≡ Ok v
interval_is_named xs v s =
    let a : cut_at 47 xs ≡ Some (82 ∷ s.count, s.moment ++ (47 ∷ ((80 ∷ s.step) ++ (68 ∷ [])))) =
    ap (cut_at 47) s.text ∙ cut_finds 47 (82 ∷ s.count) (s.moment ++ (47 ∷ ((80 ∷ s.step) ++ (68 ∷ [])))) ((λ e. omega (arith, e)), digits_lack_slash s.count s.counted.digits) in
    let b = cut_finds 47 s.moment ((80 ∷ s.step) ++ (68 ∷ [])) (moment_lacks s.moment v.start s.begun) in
    let n = letter_named 82 s.count v.count s.counted in
    let k = period_is_named s.step v.step s.stepped in
    let m = moment_is_named s.moment v.start s.begun in
    rw (a, b, n, k, m) refl

pub spelling : Spelling
spelling xs v = (interval_from xs v, interval_is_named xs v)
