-- Moments by their spelling.
use Rattle.std.proofs.Common.{◌≡◌, ℕ, ◌+◌, ◌*◌, ◌/◌, ◌%◌, ◌≤◌, true, false, ◌&&◌, eqb, leb, List, ◌∷◌, Some, Ok, Result, sym, refl, ap, ◌∙◌, subst, ⊎_elim, arith}
use Rattle.std.specs.List.{AllByRecursion}
use Rattle.std.proofs.ByRecursion.{All-append}
use Rattle.std.proofs.lemmas.Bool.{and_parts, cases_Bool, leb-true, le-leb, eqb-true}
use Rattle.calendar.specs.declared.starts.Moment.{Moment}
use Rattle.calendar.specs.Dates.{day_at}
use Rattle.refusal.specs.declared.Refusal.{Refusal}
use Rattle.notation.specs.Dates.{date_named, clock_named, moment_named}
use Rattle.notation.specs.Digits.{numeral}
use Rattle.notation.specs.Fields.{cut_at, formed, in_range}
use Rattle.notation.specs.Spelling.{Writes, SpellsMoment}
use Rattle.notation.proofs.Answering.{err_ok, both, was_formed, was_there}
use Rattle.notation.proofs.Cuts.{cut_joins, cut_finds}
use Rattle.notation.proofs.Numbering.{writes_from, numeral_from, digits_lack, digits_lack_slash}

-- what the digits of a time say
record Clock (t c : ℕ) : Type 0 where
  seconds : t % 100 ≡ 0
  hours : t / 10000 ≤ 23
  minutes : t / 100 % 100 ≤ 59
  clock : c ≡ t / 10000 * 60 + t / 100 % 100

clock_from : (t c : ℕ) → clock_named t ≡ Ok c → Clock t c
clock_from t c e =
    ⊎_elim
    (λ (s : eqb (t % 100) 0 ≡ true).
    ⊎_elim
    (λ (b : (leb (t / 10000) 23 && leb (t / 100 % 100) 59) ≡ true).
    let p = and_parts (leb (t / 10000) 23) (leb (t / 100 % 100) 59) b in
    let k : ◌≡◌ {A = Result ℕ Refusal} (Ok (t / 10000 * 60 + t / 100 % 100)) (Ok c) = rw (s, b) at e in
    record { seconds = eqb-true (t % 100) 0 s; hours = leb-true (t / 10000) 23 p.0; minutes = leb-true (t / 100 % 100) 59 p.1; clock = cc })
    (λ (b : (leb (t / 10000) 23 && leb (t / 100 % 100) 59) ≡ false). absurd (err_ok _ c (rw (s, b) at e)))
    (cases_Bool (leb (t / 10000) 23 && leb (t / 100 % 100) 59)))
    (λ (s : eqb (t % 100) 0 ≡ false). absurd (err_ok _ c (rw s at e)))
    (cases_Bool (eqb (t % 100) 0))

clock_is_named : (h m c : ℕ) → h ≤ 23 → m ≤ 59 → c ≡ h * 60 + m → clock_named (h * 10000 + m * 100) ≡ Ok c
clock_is_named h m c a b e =
    let s : (h * 10000 + m * 100) % 100 ≡ 0 = omega arith in
    let p : (h * 10000 + m * 100) / 10000 ≡ h = omega arith in
    let u : (h * 10000 + m * 100) / 100 ≡ h * 100 + m = omega arith in
    let v : (h * 100 + m) % 100 ≡ m = omega arith in
    let q : (h * 10000 + m * 100) / 100 % 100 ≡ m = rw u v in
    rw (s, p, q, le-leb h 23 a, le-leb m 59 b) (ap (λ k. Ok k) (sym e))

-- the moment of its parts
made : (xs a b : List ℕ) (d t c k : ℕ) (m : Moment) → cut_at 84 xs ≡ Some (a, b) → numeral 8 8 a ≡ Some d → numeral 6 6 b ≡ Some t → clock_named t ≡ Ok c → day_at (date_named d) ≡ Some k
    → ◌≡◌ {A = Result Moment Refusal} (Ok (record { day = k; clock = c })) (Ok m) → SpellsMoment xs m
made xs a b d t c k m cut date time clock day e =
    let q : ◌≡◌ {A = Moment} (record { day = k; clock = c }) m = cc in
    let r = clock_from t c clock in
    let s : t ≡ t / 10000 * 10000 + t / 100 % 100 * 100 = omega (arith, r.seconds) in
    record {
      date = a;
      time = b;
      day = d;
      hour = t / 10000;
      minute = t / 100 % 100;
      text = cut_joins 84 xs a b cut;
      dated = writes_from 8 8 a d date;
      timed = subst (Writes 6 6 b) s (writes_from 6 6 b t time);
      exists = day ∙ ap (λ (n : Moment). Some n.day) q;
      hours = r.hours;
      minutes = r.minutes;
      clock = ap (λ (n : Moment). n.clock) (sym q) ∙ r.clock;
    }

pub moment_from : (xs : List ℕ) (m : Moment) → moment_named xs ≡ Ok m → SpellsMoment xs m
moment_from xs m e =
    both (formed (cut_at 84 xs)) _ m e (λ p cut f.
    both (formed (numeral 8 8 p.0)) _ m f (λ d date g.
    both (formed (numeral 6 6 p.1)) _ m g (λ t time h.
    both (clock_named t) _ m h (λ c clock i.
    both (in_range (day_at (date_named d))) _ m i (λ k day l.
    made xs p.0 p.1 d t c k m (was_formed (cut_at 84 xs) p cut) (was_formed (numeral 8 8 p.0) d date) (was_formed (numeral 6 6 p.1) t time) clock (was_there (day_at (date_named d)) k day) l)))))

pub moment_is_named : (xs : List ℕ) (m : Moment) → SpellsMoment xs m → moment_named xs ≡ Ok m
moment_is_named xs m s =
    let c : cut_at 84 xs ≡ Some (s.date, s.time) = ap (cut_at 84) s.text ∙ cut_finds 84 s.date s.time (digits_lack 84 s.date (omega arith) s.dated.digits) in
    let d = numeral_from 8 8 s.date s.day s.dated in
    let t = numeral_from 6 6 s.time (s.hour * 10000 + s.minute * 100) s.timed in
    let k = clock_is_named s.hour s.minute m.clock s.hours s.minutes s.clock in
    rw (c, d, t, k, s.exists) refl

-- a moment's text has no slash
pub moment_lacks : (xs : List ℕ) (m : Moment) → SpellsMoment xs m → AllByRecursion (λ y. y ≡ 47 → ⊥) xs
moment_lacks xs m s =
    subst (AllByRecursion (λ y. y ≡ 47 → ⊥)) (sym s.text)
    (All-append (λ y. y ≡ 47 → ⊥) s.date (84 ∷ s.time) (digits_lack_slash s.date s.dated.digits) ((λ e. omega (arith, e)), digits_lack_slash s.time s.timed.digits))
