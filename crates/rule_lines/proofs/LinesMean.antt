-- The lines of a rule mean its days.
use Rattle.std.proofs.Common.{◌≡◌, ℕ, zero, suc, ◌-◌, ◌<◌, ◌≤◌, Bool, true, false, not, ◌&&◌, ◌||◌, List, [], ◌∷◌, ◌++◌, is_some, Some, None, Ok, codes, Option, sym, refl, ap, ◌∙◌, ⊎_elim, arith}
use Rattle.std.proofs.lemmas.Bool.{cases_lt}
use Rattle.calendar.proofs.DateLaws.{no_date}
use Rattle.recurrence.specs.declared.parts.Pattern.{Pattern}
use Rattle.recurrence.specs.declared.parts.Recurrence.{Recurrence}
use Rattle.rule.specs.Lists.{chooses, days_of}
use Rattle.rule.specs.Refused.{list_of, refusal, first_refusal, in_bounds, conflict, among, pattern_of, pattern_suits}
use Rattle.rule.specs.Remade.{recurrence_by}
use Rattle.rule.specs.Spans.{limited, span, stop}
use Rattle.rule.specs.SpansLemmas.{void}
use Rattle.rule.proofs.Remaking.{empty_not, alone, remakes}
use Rattle.dates.specs.Unions.{merged}
use Rattle.rule_text.specs.Lists.{if_some}
use Rattle.rule_lines.specs.DayLines.{given, moment_days, unrefused, rule_days, start_days, lines_days, start_text, repeat_line, Twelve, LinesMean}
use Rattle.rule_text.specs.Reading.{recurrence_named}
use Rattle.rule_lines.specs.Writing.{recurrence_text, period_text, count_text, lists_text, last_text, last_known, SameParts}
use Rattle.rule_lines.proofs.ReadsBack.{reads_back}
use Rattle.rule_lines.proofs.SameMeaning.{same_days, same_refusal}
use Rattle.rule_lines.proofs.WrittenDays.{moment_read}

-- what is not refused is in bounds
bounds_first : (b c p : Bool) → first_refusal b c p ≡ None → b ≡ true
bounds_first true c p e = refl
bounds_first false c p e = let z : ◌≡◌ {A = ℕ} 0 1 = cc in absurd (omega arith)

accepted_bounds : (start : ℕ) (r : Option Recurrence) → refusal start r ≡ None → in_bounds start r ≡ true
unfolding refusal
accepted_bounds start r e = bounds_first (in_bounds start r) (conflict r) (among start (list_of start r)) e

-- the last day of a rule with days is not before the first
none_left : (c : Option ℕ) → limited c [] ≡ []
none_left None = refl
none_left (Some zero) = refl
none_left (Some (suc k)) = refl

not_before : (p : Option Pattern) (start x : ℕ) (xs : List ℕ) (u : ℕ) (count : Option ℕ) → days_of p start (Some u) count ≡ x ∷ xs → 1 ≤ u
not_before p start x xs zero count d =
    let l : stop (Some 0) ≤ start = omega arith in
    absurd (empty_not x xs (sym (none_left count) ∙ ap (limited count) (sym (void (chooses p start) start (stop (Some 0)) l)) ∙ d))
not_before p start x xs (suc u) count d = omega arith

-- ---- the values of the lines

alone_values : (t : List ℕ) → lines_days ((codes "DTSTART:" ++ t) ∷ []) ≡ start_days (t ∷ []) [] []
alone_values t = refl

both_values : (t u : List ℕ) → lines_days ((codes "DTSTART:" ++ t) ∷ (codes "RRULE:" ++ u) ∷ []) ≡ start_days (t ∷ []) (u ∷ []) []
both_values t u = refl

-- ---- the days

-- without RDATE
abbrev listed : Option (List ℕ) → ℕ → Option (List ℕ)
listed days clock = if_some days (λ xs. if_some (moment_days clock []) (λ ys. Some (merged xs ys)))

repeats : (day clock : ℕ) (r s : Recurrence) (t : List ℕ) → recurrence_named clock t ≡ Ok s → SameParts s r → refusal day (Some r) ≡ None → rule_days (record { day = day; clock = clock }) (t ∷ []) ≡ Some (list_of day (Some r))
repeats day clock r s t e same ok =
    ap (λ q. given q (λ z. unrefused (refusal day (Some z)) (list_of day (Some z)))) e
    ∙ ap (λ q. unrefused q (list_of day (Some s))) (same_refusal s r same day ∙ ok)
    ∙ ap (λ q. Some q) (same_days s r same day)

abbrev parts : Pattern → Option ℕ → Option ℕ → Recurrence
parts p count until = record { pattern = p; count = count; until = until }

written : (p : Pattern) (count until : Option ℕ) (day clock : ℕ) → clock < 1440 → day < 109573 → Twelve (Some p) → last_known until → refusal day (Some (parts p count until)) ≡ None → lines_days ((codes "DTSTART:" ++ start_text day clock) ∷ repeat_line clock (Some (parts p count until))) ≡ Some (list_of day (Some (parts p count until)))
written p count until day clock h k tw last ok =
    let r = parts p count until in
    let b = reads_back clock day r (record { minute = h; bounds = accepted_bounds day (Some r) ok; last = last; months = tw.0; month_days = tw.1; week_days = tw.2 }) in
    both_values (start_text day clock) (recurrence_text clock r)
    ∙ ap (λ q. given q (λ m. listed (rule_days m (recurrence_text clock r ∷ [])) m.clock)) (moment_read day clock k h)
    ∙ ap (λ q. listed q clock) (repeats day clock r b.0 (recurrence_text clock r) b.1 b.2 ok)

-- ---- a last day past the calendar is none

past_text : (p : Pattern) (count : Option ℕ) (u clock : ℕ) → 109573 < u → recurrence_text clock (parts p count (Some u)) ≡ recurrence_text clock (parts p count None)
unfolding recurrence_text
past_text p count u clock l =
    ap (λ t. period_text (parts p count None) ++ ((count_text count ++ t) ++ lists_text (parts p count None))) (ap (last_text clock) (sym (no_date (u - 1) (omega arith))))

past_days : (p : Pattern) (count : Option ℕ) (u day : ℕ) → 109573 < u → list_of day (Some (parts p count (Some u))) ≡ list_of day (Some (parts p count None))
past_days p count u day l =
    let e : stop (Some u) ≡ 109573 = omega arith in
    ap (λ k. limited count (span (chooses (Some p) day) day k)) e

no_clash : (s c : Bool) → (not s || (c && true)) ≡ false → (not s || (c && false)) ≡ false
no_clash true true e = refl
no_clash true false e = refl
no_clash false c e = e

clash_none : (b c d p : Bool) → (c ≡ false → d ≡ false) → first_refusal b c p ≡ None → first_refusal b d p ≡ None
clash_none true true d p f e = let z : ◌≡◌ {A = ℕ} 0 1 = cc in absurd (omega arith)
clash_none true false d p f e = rw (f refl) e
clash_none false c d p f e = e

past_refusal : (p : Pattern) (count : Option ℕ) (u day : ℕ) → 109573 < u → refusal day (Some (parts p count (Some u))) ≡ None → refusal day (Some (parts p count None)) ≡ None
unfolding refusal
past_refusal p count u day l e =
    let r = Some (parts p count (Some u)) in
    let q = Some (parts p count None) in
    clash_none (in_bounds day q) (conflict r) (conflict q) (among day (list_of day q)) (no_clash (pattern_suits (pattern_of q)) (is_some count))
    (ap (λ xs. first_refusal (in_bounds day r) (conflict r) (among day xs)) (sym (past_days p count u day l)) ∙ e)

by_pattern : (p : Option Pattern) (count until : Option ℕ) (day clock x : ℕ) (xs : List ℕ) →
    clock < 1440 → day < 109573 → Twelve p →
    refusal day (recurrence_by p count until) ≡ None →
    list_of day (recurrence_by p count until) ≡ x ∷ xs →
    lines_days ((codes "DTSTART:" ++ start_text day clock) ∷ repeat_line clock (recurrence_by p count until)) ≡ Some (list_of day (recurrence_by p count until))
by_pattern None count until day clock x xs h k tw ok d =
    alone_values (start_text day clock)
    ∙ ap (λ q. given q (λ m. listed (rule_days m []) m.clock)) (moment_read day clock k h)
    ∙ ap (λ q. Some q) (sym (alone day 109573 k))
by_pattern (Some p) count None day clock x xs h k tw ok d = written p count None day clock h k tw tt ok
by_pattern (Some p) count (Some u) day clock x xs h k tw ok d =
    ⊎_elim
    (λ (l : 109573 < u).
    ap (λ t. lines_days ((codes "DTSTART:" ++ start_text day clock) ∷ (codes "RRULE:" ++ t) ∷ [])) (past_text p count u clock l)
    ∙ written p count None day clock h k tw tt (past_refusal p count u day l ok)
    ∙ ap (λ q. Some q) (sym (past_days p count u day l)))
    (λ (l : u ≤ 109573). written p count (Some u) day clock h k tw (not_before (Some p) day x xs u count d, l) ok)
    (cases_lt 109573 u)

pub lines_mean : LinesMean
lines_mean clock r x xs h tw d =
    let m = remakes r x xs d in
    by_pattern r.choice.pattern r.count r.until r.choice.start clock x xs h r.choice.begun tw m.accepted (m.same ∙ d) ∙ ap (λ q. Some q) m.same
