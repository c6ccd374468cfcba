-- A date has one day, and a day one date.
use Rattle.std.proofs.Common.{◌≡◌, ℕ, ◌<◌, leb, Some, None, sym, refl, ap, ◌∙◌, subst, ⊎_elim, arith}
use Rattle.std.proofs.lemmas.Bool.{cases_Bool, le-leb, lt-leb, leb-true}
use Rattle.calendar.specs.declared.date.Date.{Date}
use Rattle.calendar.specs.Years.{last_day}
use Rattle.calendar.specs.Dates.{date_of, date_at, day_of, day_at, is_date}
use Rattle.calendar.specs.Laws.{Inverse, OneDay}
use Rattle.calendar.proofs.Dating.{IsDate, date_is, is_a_date, dated, date_from}

some_one : {A : Type 0} (a b : A) → Some a ≡ Some b → a ≡ b
some_one a b e = cc

none_some : {A : Type 0} (b : A) → None ≡ Some b → ⊥
none_some b e = let z : ◌≡◌ {A = ℕ} 0 1 = cc in omega arith

pub some_date : (d : ℕ) → d < 109573 → date_at d ≡ Some (date_of d)
some_date d h = rw (le-leb d last_day (omega arith))

pub no_date : (d : ℕ) → last_day < d → None ≡ date_at d
no_date d h = rw (lt-leb d last_day h)

pub some_day : (t : Date) (k : ℕ) → IsDate t → day_of t ≡ k → day_at t ≡ Some k
some_day t k i e = rw (date_is t i) (ap (λ j. Some j) e)

pub no_day : (t : Date) → (IsDate t → ⊥) → None ≡ day_at t
no_day t h = ⊎_elim (λ e. absurd (h (is_a_date t e))) (λ e. rw e) (cases_Bool (is_date t))

there : (d : ℕ) (t : Date) → date_at d ≡ Some t → day_at t ≡ Some d
there d t e =
    ⊎_elim
    (λ b.
    let a = dated d (omega (arith, leb-true d last_day b)) in
    let p : date_of d ≡ t = some_one (date_of d) t (rw b at e) in
    subst (λ (u : Date). day_at u ≡ Some d) p (some_day (date_of d) d a.ok a.sum))
    (λ b. absurd (none_some t (rw b at e)))
    (cases_Bool (leb d last_day))

back : (d : ℕ) (t : Date) → day_at t ≡ Some d → date_at d ≡ Some t
back d t e =
    ⊎_elim
    (λ b.
    let o = date_from t d (is_a_date t b) (some_one (day_of t) d (rw b at e)) in
    some_date d o.0 ∙ ap (λ u. Some u) o.1)
    (λ b. absurd (none_some d (rw b at e)))
    (cases_Bool (is_date t))

pub inverse : Inverse
inverse d t = (there d t, back d t)

pub one_day : OneDay
one_day t b =
    let s = some_day t (day_of t) (is_a_date t b) refl in
    (day_of t, back (day_of t) t s, λ e p. some_one e (day_of t) (sym (there e t p) ∙ s))
