-- What is written of a recurrence is read back.
use Rattle.std.proofs.Common.{◌≡◌, ℕ, ◌-◌, ◌<◌, ◌≤◌, Bool, true, eqb, leb, List, [], ◌∷◌, ◌++◌, length, Some, None, Ok, codes, decimal, Option, unwrap_or, sym, refl, ap, ◌∙◌, ⊎_elim, arith}
use Rattle.std.specs.List.{list_all}
use Rattle.std.proofs.lemmas.List.{append-nil, append_assoc, length-take-le}
use Rattle.std.proofs.lemmas.Bool.{and_parts, cases_Bool, eqb-true, leb-true, le-ltb}
use Rattle.calendar.specs.declared.weekdays.Weekday.{Weekday}
use Rattle.calendar.specs.declared.weekdays.Weekday.TheVariants.{Monday, Tuesday, Wednesday, Thursday, Friday, Saturday, Sunday}
use Rattle.notation.specs.Fields.{and_then}
use Rattle.recurrence.specs.declared.parts.Few.{Few}
use Rattle.recurrence.specs.declared.parts.Frequency.{Frequency}
use Rattle.recurrence.specs.declared.parts.Ordinal.TheVariants.{FromStart}
use Rattle.recurrence.specs.declared.parts.Recurrence.{Recurrence}
use Rattle.recurrence.specs.Entries.{entries, none}
use Rattle.recurrence.specs.Bounds.{within, few_fit, month_fits, month_day_fits, day_entry_fits}
use Rattle.rule.specs.Refused.{count_bounds, in_bounds, pattern_bounds, pattern_of}
use Rattle.calendar.specs.Years.{last_day}
use Rattle.rule_text.specs.declared.parts.Parts.{Parts}
use Rattle.rule_text.specs.Lists.{fields_at}
use Rattle.rule_text.specs.Parts.{blank_day}
use Rattle.rule_text.specs.Reading.{no_parts, parts_read, after_last, settled_by, ended, begun}
use Rattle.rule_lines.specs.Writing.{ordinal_text, day_entry_text, frequency_text, interval_text, week_start_text, count_text, until_text, list_text, recurrence_text, last_known, SameFew, ReadsBack}
use Rattle.rule_lines.proofs.WrittenEntries as entry
use Rattle.rule_lines.proofs.WrittenEntries.{up_to}
use Rattle.rule_lines.proofs.WrittenLists.{Holds, few_holds}
use Rattle.rule_lines.proofs.WrittenParts.{Behind, behind_both, parts_of, interval_part, week_start_part, until_part, list_part, frequency_read, interval_behind, interval_read, week_start_behind, week_start_read, count_behind, count_read, until_behind, until_read, list_behind, months_read, month_days_read, week_days_read}

-- ---- the bounds, one by one

record InBounds (r : Recurrence) : Type 0 where
  interval : r.pattern.interval ≤ 999
  count : count_bounds r.count ≡ true
  months : few_fit month_fits r.pattern.months ≡ true
  month_days : few_fit month_day_fits r.pattern.month_days ≡ true
  week_days : few_fit day_entry_fits r.pattern.week_days ≡ true

is_in_bounds : (start : ℕ) (r : Recurrence) → in_bounds start (Some r) ≡ true → InBounds r
is_in_bounds start r e =
    let p = (and_parts (leb start last_day) _ e).1 in
    let q = and_parts (pattern_bounds (pattern_of (Some r))) (count_bounds r.count) p in
    let a = and_parts (within 1 999 r.pattern.interval) _ q.0 in
    let b = and_parts (few_fit month_fits r.pattern.months) _ a.1 in
    let c = and_parts (few_fit month_day_fits r.pattern.month_days) _ b.1 in
    record { interval = up_to 1 999 r.pattern.interval a.0; count = q.1; months = b.0; month_days = c.0; week_days = c.1 }

-- ---- all parts

regroup : (a b c d e f g h : List ℕ) → (a ++ (b ++ c)) ++ ((d ++ e) ++ (f ++ (g ++ h))) ≡ a ++ (b ++ (c ++ (d ++ (e ++ (f ++ (g ++ (h ++ [])))))))
regroup a b c d e f g h = simp (append_assoc, append-nil)

abbrev parts_in : ℕ → Recurrence → Parts
parts_in clock r = parts_of (Some r.pattern.frequency) (interval_part r.pattern.interval) (week_start_part r.pattern.week_start) r.count (until_part clock r.until)
    (list_part 0 (entries r.pattern.months)) (list_part (FromStart 0) (entries r.pattern.month_days)) (list_part blank_day (entries r.pattern.week_days))

fits_all : {X : Type 0} (f : X → Bool) (few : Few X) → few_fit f few ≡ true → (few.len ≤ 12) × (list_all f (entries few) ≡ true)
fits_all f few e = let p = and_parts (leb few.len 12) (list_all f (entries few)) e in (leb-true few.len 12 p.0, p.1)

all_parts : (clock : ℕ) (r : Recurrence) → clock < 1440 → InBounds r → last_known r.until → parts_read (fields_at 59 (recurrence_text clock r)) no_parts ≡ Ok (parts_in clock r)
unfolding recurrence_text
all_parts clock r h b k =
    let F = Some r.pattern.frequency in
    let I = interval_part r.pattern.interval in
    let W = week_start_part r.pattern.week_start in
    let U = until_part clock r.until in
    let M = list_part 0 (entries r.pattern.months) in
    let D = list_part (FromStart 0) (entries r.pattern.month_days) in
    let f = frequency_text r.pattern.frequency in
    let i = interval_text r.pattern.interval in
    let w = week_start_text r.pattern.week_start in
    let n = count_text r.count in
    let u = until_text clock r.until in
    let m = list_text (codes ";BYMONTH=") decimal (entries r.pattern.months) in
    let d = list_text (codes ";BYMONTHDAY=") ordinal_text (entries r.pattern.month_days) in
    let e = list_text (codes ";BYDAY=") day_entry_text (entries r.pattern.week_days) in
    let be : Behind (e ++ []) = behind_both e [] (list_behind (codes "BYDAY=") day_entry_text (entries r.pattern.week_days)) tt in
    let bd : Behind (d ++ (e ++ [])) = behind_both d _ (list_behind (codes "BYMONTHDAY=") ordinal_text (entries r.pattern.month_days)) be in
    let bm : Behind (m ++ (d ++ (e ++ []))) = behind_both m _ (list_behind (codes "BYMONTH=") decimal (entries r.pattern.months)) bd in
    let bu : Behind (u ++ (m ++ (d ++ (e ++ [])))) = behind_both u _ (until_behind clock r.until) bm in
    let bn : Behind (n ++ (u ++ (m ++ (d ++ (e ++ []))))) = behind_both n _ (count_behind r.count) bu in
    let bw : Behind (w ++ (n ++ (u ++ (m ++ (d ++ (e ++ [])))))) = behind_both w _ (week_start_behind r.pattern.week_start) bn in
    let bi : Behind (i ++ (w ++ (n ++ (u ++ (m ++ (d ++ (e ++ []))))))) = behind_both i _ (interval_behind r.pattern.interval) bw in
    ap (λ xs. parts_read (fields_at 59 xs) no_parts) (regroup f i w n u m d e)
    ∙ frequency_read r.pattern.frequency _ bi
    ∙ interval_read F r.pattern.interval _ b.interval bw
    ∙ week_start_read F I r.pattern.week_start _ bn
    ∙ count_read F I W r.count _ b.count bu
    ∙ until_read F I W r.count clock r.until _ h k bm
    ∙ months_read F I W r.count U (entries r.pattern.months) _ (entry.months_read _ (fits_all month_fits r.pattern.months b.months).1) bd
    ∙ month_days_read F I W r.count U M (entries r.pattern.month_days) _ (entry.month_days_read _ (fits_all month_day_fits r.pattern.month_days b.month_days).1) be
    ∙ week_days_read F I W r.count U M D (entries r.pattern.week_days) [] (entry.day_entries_read _ (fits_all day_entry_fits r.pattern.week_days b.week_days).1) tt

-- ---- the recurrence of the parts

abbrev until_back : ℕ → Option ℕ → Option ℕ
until_back clock None = None
until_back clock (Some d) = Some (after_last clock (record { day = d - 1; clock = clock }))

ends : (f : Frequency) (clock : ℕ) (u : Option ℕ) (p : Parts) → ended f (until_part clock u) clock p ≡ Ok (settled_by f (until_back clock u) p)
ends f clock None p = refl
ends f clock (Some d) p = refl

same_interval : (n : ℕ) → unwrap_or (interval_part n) 1 ≡ n
same_interval n = ⊎_elim (λ t. rw t (sym (eqb-true n 1 t))) (λ e. rw e refl) (cases_Bool (eqb n 1))

same_week_start : (w : Weekday) → unwrap_or (week_start_part w) Monday ≡ w
same_week_start Monday = refl
same_week_start Tuesday = refl
same_week_start Wednesday = refl
same_week_start Thursday = refl
same_week_start Friday = refl
same_week_start Saturday = refl
same_week_start Sunday = refl

same_until : (clock : ℕ) (u : Option ℕ) → last_known u → until_back clock u ≡ u
same_until clock None h = refl
same_until clock (Some d) h =
    let e : after_last clock (record { day = d - 1; clock = clock }) ≡ d = rw (le-ltb clock clock (omega arith)) (omega (arith, h.0, h.1)) in ap (λ k. Some k) e

listed : {X : Type 0} (blank : X) (xs : List X) → length xs ≤ 12 → Holds (unwrap_or (list_part blank xs) (none blank)) xs
listed blank [] h = few_holds blank [] h
listed blank (x ∷ xs) h = few_holds blank (x ∷ xs) h

same_few : {X : Type 0} (blank : X) (fits : X → Bool) (few : Few X) → few_fit fits few ≡ true → length few.items ≡ 12 → SameFew (unwrap_or (list_part blank (entries few)) (none blank)) few
same_few blank fits few e l =
    let h = (fits_all fits few e).0 in
    let k = length-take-le few.len few.items (omega (arith, l, h)) in
    let s = listed blank (entries few) (omega (arith, k, h)) in
    record { len = s.len ∙ k; items = s.items }

pub reads_back : ReadsBack
reads_back clock start r w =
    let b = is_in_bounds start r w.bounds in
    let p = parts_in clock r in (
      settled_by r.pattern.frequency (until_back clock r.until) p,
      ap (λ q. and_then q (λ z. begun z.frequency clock z)) (all_parts clock r w.minute b w.last) ∙ ends r.pattern.frequency clock r.until p,
      record {
        frequency = refl;
        interval = same_interval r.pattern.interval;
        week_start = same_week_start r.pattern.week_start;
        count = refl;
        until = same_until clock r.until w.last;
        months = same_few 0 month_fits r.pattern.months b.months w.months;
        month_days = same_few (FromStart 0) month_day_fits r.pattern.month_days b.month_days w.month_days;
        week_days = same_few blank_day day_entry_fits r.pattern.week_days b.week_days w.week_days;
      },
    )
