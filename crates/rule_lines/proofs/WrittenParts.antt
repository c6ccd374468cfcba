-- The parts of a recurrence's text are read back, one after the other.
use Rattle.std.proofs.Common.{◌≡◌, ℕ, ◌-◌, ◌<◌, ◌≤◌, Bool, true, cond, not, ◌&&◌, eqb, List, [], ◌∷◌, ◌++◌, Some, None, Ok, codes, decimal, Option, Result, refl, ap, ◌∙◌, ⊎_elim, arith}
use Rattle.std.specs.List.{flat_map, AllByRecursion}
use Rattle.std.proofs.ByRecursion.{All-append, All-weaker}
use Rattle.std.proofs.lemmas.List.{append-nil}
use Rattle.std.proofs.lemmas.Bool.{and_parts, cases_Bool, eqb-false, not-true}
use Rattle.calendar.specs.declared.date.Date.{Date}
use Rattle.calendar.specs.declared.starts.Moment.{Moment}
use Rattle.calendar.specs.declared.weekdays.Weekday.{Weekday}
use Rattle.calendar.specs.declared.weekdays.Weekday.TheVariants.{Monday, Tuesday, Wednesday, Thursday, Friday, Saturday, Sunday}
use Rattle.calendar.specs.Dates.{date_at}
use Rattle.calendar.proofs.DateLaws.{some_date}
use Rattle.refusal.specs.declared.Refusal.{Refusal}
use Rattle.recurrence.specs.declared.parts.DayEntry.{DayEntry}
use Rattle.recurrence.specs.declared.parts.Few.{Few}
use Rattle.recurrence.specs.declared.parts.Frequency.{Frequency}
use Rattle.recurrence.specs.declared.parts.Frequency.TheVariants.{Daily, Weekly, Monthly, Yearly}
use Rattle.recurrence.specs.declared.parts.Ordinal.{Ordinal}
use Rattle.recurrence.specs.declared.parts.Ordinal.TheVariants.{FromStart}
use Rattle.rule.specs.Refused.{count_bounds}
use Rattle.rule_text.specs.declared.parts.Parts.{Parts}
use Rattle.rule_text.specs.Entries.{month_named, month_day_named, day_entry_named}
use Rattle.rule_text.specs.Lists.{fields_at}
use Rattle.rule_text.specs.Parts.{limited, once, filled, part_read, blank_day}
use Rattle.rule_text.specs.Reading.{no_parts, parts_read}
use Rattle.rule_lines.specs.Writing.{ordinal_text, day_entry_text, frequency_text, interval_text, week_start_text, count_text, last_text, until_text, list_text, last_known}
use Rattle.rule_lines.proofs.Separated.{Lacks, fields_last, fields_more}
use Rattle.rule_lines.proofs.WrittenDays.{moment_text, moment_read, moment_plain}
use Rattle.rule_lines.proofs.WrittenEntries.{up_to}
use Rattle.rule_lines.proofs.WrittenLists.{Read, few_of, few_read, few_lacks}
use Rattle.rule_lines.proofs.WrittenNumbers.{Plain, decimal_plain, decimal_capped}

-- ---- a text without semicolons

lackb : List ℕ → Bool
lackb [] = true
lackb (y ∷ ys) = not (eqb y 59) && lackb ys

by_test : (ys : List ℕ) → lackb ys ≡ true → Lacks 59 ys
unfolding lackb
by_test [] e = tt
by_test (y ∷ ys) e = let p = and_parts (not (eqb y 59)) (lackb ys) e in (eqb-false y 59 (not-true (eqb y 59) p.0), by_test ys p.1)

plain_lacks : (ys : List ℕ) → AllByRecursion Plain ys → Lacks 59 ys
plain_lacks ys a = All-weaker Plain (λ z. z ≡ 59 → ⊥) (λ z p. p.1) ys a

behind_name : (name ys : List ℕ) → lackb name ≡ true → Lacks 59 ys → Lacks 59 (name ++ ys)
behind_name name ys e h = All-append (λ z. z ≡ 59 → ⊥) name ys (by_test name e) h

list_lacks : {X : Type 0} (named : List ℕ → Option X) (text : X → List ℕ) (x : X) (xs : List X) → AllByRecursion (Read named text) (x ∷ xs) → Lacks 59 (text x ++ flat_map (λ y. 44 ∷ text y) xs)
list_lacks named text x xs h = All-append (λ z. z ≡ 59 → ⊥) (text x) (flat_map (λ y. 44 ∷ text y) xs) (plain_lacks (text x) h.0.plain) (few_lacks named text xs h.1)

-- ---- what stands behind a part: nothing, or a semicolon and the next

abbrev pub Behind : List ℕ → Type 0
Behind [] = Unit {0}
Behind (y ∷ ys) = y ≡ 59

abbrev pub read_behind : List ℕ → Parts → Result Parts Refusal
read_behind [] p = Ok p
read_behind (y ∷ ys) p = parts_read (fields_at 59 ys) p

pub behind_both : (t ys : List ℕ) → Behind t → Behind ys → Behind (t ++ ys)
behind_both [] ys a b = b
behind_both (x ∷ t) ys a b = a

front : (f ys : List ℕ) (p q : Parts) → Lacks 59 f → Behind ys → part_read p f ≡ Ok q → parts_read (fields_at 59 (f ++ ys)) p ≡ read_behind ys q
front f [] p q h b e = ap (λ fs. parts_read fs p) (ap (fields_at 59) (append-nil f) ∙ fields_last 59 f h) ∙ rw e refl
front f (y ∷ ys) p q h b e = ap (λ z. parts_read (fields_at 59 (f ++ (z ∷ ys))) p) b ∙ ap (λ fs. parts_read fs p) (fields_more 59 f ys h) ∙ rw e refl

given_once : {X : Type 0} (o : Option X) (x : X) (set : Option X → Parts) → o ≡ Some x → filled set (once None o) ≡ Ok (set (Some x))
given_once o x set e = ap (λ z. filled set (once None z)) e

-- ---- what is read of each part

abbrev pub parts_of : Option Frequency → Option ℕ → Option Weekday → Option ℕ → Option (Result Moment Refusal) → Option (Few ℕ) → Option (Few Ordinal) → Option (Few DayEntry) → Parts
parts_of f i w c u m d k = record { frequency = f; interval = i; week_start = w; count = c; until = u; months = m; month_days = d; week_days = k }

abbrev pub interval_part : ℕ → Option ℕ
interval_part n = cond (eqb n 1) None (Some n)

abbrev pub week_start_part : Weekday → Option Weekday
week_start_part Monday = None
week_start_part Tuesday = Some Tuesday
week_start_part Wednesday = Some Wednesday
week_start_part Thursday = Some Thursday
week_start_part Friday = Some Friday
week_start_part Saturday = Some Saturday
week_start_part Sunday = Some Sunday

abbrev pub until_part : ℕ → Option ℕ → Option (Result Moment Refusal)
until_part clock None = None
until_part clock (Some d) = Some (Ok (record { day = d - 1; clock = clock }))

abbrev pub list_part : {X : Type 0} → X → List X → Option (Few X)
list_part blank [] = None
list_part blank (x ∷ xs) = Some (few_of blank (x ∷ xs))

-- ---- part by part

pub frequency_read : (f : Frequency) (ys : List ℕ) → Behind ys → parts_read (fields_at 59 (frequency_text f ++ ys)) no_parts ≡ read_behind ys (parts_of (Some f) None None None None None None None)
unfolding lackb
frequency_read Daily ys b = front (codes "FREQ=DAILY") ys no_parts _ (by_test (codes "FREQ=DAILY") refl) b refl
frequency_read Weekly ys b = front (codes "FREQ=WEEKLY") ys no_parts _ (by_test (codes "FREQ=WEEKLY") refl) b refl
frequency_read Monthly ys b = front (codes "FREQ=MONTHLY") ys no_parts _ (by_test (codes "FREQ=MONTHLY") refl) b refl
frequency_read Yearly ys b = front (codes "FREQ=YEARLY") ys no_parts _ (by_test (codes "FREQ=YEARLY") refl) b refl

pub interval_behind : (n : ℕ) → Behind (interval_text n)
interval_behind n = ⊎_elim (λ t. rw t tt) (λ e. rw e refl) (cases_Bool (eqb n 1))

pub interval_read : (f : Option Frequency) (n : ℕ) (ys : List ℕ) → n ≤ 999 → Behind ys
    → read_behind (interval_text n ++ ys) (parts_of f None None None None None None None) ≡ read_behind ys (parts_of f (interval_part n) None None None None None None)
unfolding lackb
interval_read f n ys h b =
    ⊎_elim
    (λ t. rw t refl)
    (λ e. rw e
    (front (codes "INTERVAL=" ++ decimal n) ys (parts_of f None None None None None None None) (parts_of f (Some n) None None None None None None)
    (behind_name (codes "INTERVAL=") (decimal n) refl (plain_lacks (decimal n) (decimal_plain n (omega arith)))) b (given_once _ n _ (decimal_capped n (omega arith)))))
    (cases_Bool (eqb n 1))

pub week_start_behind : (w : Weekday) → Behind (week_start_text w)
week_start_behind Monday = tt
week_start_behind Tuesday = refl
week_start_behind Wednesday = refl
week_start_behind Thursday = refl
week_start_behind Friday = refl
week_start_behind Saturday = refl
week_start_behind Sunday = refl

pub week_start_read : (f : Option Frequency) (i : Option ℕ) (w : Weekday) (ys : List ℕ) → Behind ys
    → read_behind (week_start_text w ++ ys) (parts_of f i None None None None None None) ≡ read_behind ys (parts_of f i (week_start_part w) None None None None None)
unfolding lackb
week_start_read f i Monday ys b = refl
week_start_read f i Tuesday ys b = front (codes "WKST=TU") ys _ _ (by_test (codes "WKST=TU") refl) b refl
week_start_read f i Wednesday ys b = front (codes "WKST=WE") ys _ _ (by_test (codes "WKST=WE") refl) b refl
week_start_read f i Thursday ys b = front (codes "WKST=TH") ys _ _ (by_test (codes "WKST=TH") refl) b refl
week_start_read f i Friday ys b = front (codes "WKST=FR") ys _ _ (by_test (codes "WKST=FR") refl) b refl
week_start_read f i Saturday ys b = front (codes "WKST=SA") ys _ _ (by_test (codes "WKST=SA") refl) b refl
week_start_read f i Sunday ys b = front (codes "WKST=SU") ys _ _ (by_test (codes "WKST=SU") refl) b refl

module _ (f : Option Frequency) (i : Option ℕ) (w : Option Weekday) where
  pub count_read : (n : Option ℕ) (ys : List ℕ) → count_bounds n ≡ true → Behind ys → read_behind (count_text n ++ ys) (parts_of f i w None None None None None) ≡ read_behind ys (parts_of f i w n None None None None)
  unfolding lackb
  count_read None ys h b = refl
  count_read (Some n) ys h b =
      let k = up_to 1 10000 n h in
      front (codes "COUNT=" ++ decimal n) ys (parts_of f i w None None None None None) (parts_of f i w (Some n) None None None None)
      (behind_name (codes "COUNT=") (decimal n) refl (plain_lacks (decimal n) (decimal_plain n (omega (arith, k))))) b (given_once _ n _ (decimal_capped n k))

  pub until_read : (n : Option ℕ) (clock : ℕ) (u : Option ℕ) (ys : List ℕ) → clock < 1440 → last_known u → Behind ys → read_behind (until_text clock u ++ ys) (parts_of f i w n None None None None) ≡ read_behind ys (parts_of f i w n (until_part clock u) None None None)
  unfolding lackb
  until_read n clock None ys h k b = refl
  until_read n clock (Some d) ys h k b =
      let l : d - 1 < 109573 = omega (arith, k.0, k.1) in
      let v = moment_text (d - 1) clock in
      rw (some_date (d - 1) l)
      (front (codes "UNTIL=" ++ v) ys (parts_of f i w n None None None None) (parts_of f i w n (until_part clock (Some d)) None None None)
      (behind_name (codes "UNTIL=") v refl (plain_lacks v (moment_plain (d - 1) clock l h))) b (given_once _ (Ok (record { day = d - 1; clock = clock })) _ (ap limited (moment_read (d - 1) clock l h))))

  module _ (n : Option ℕ) (u : Option (Result Moment Refusal)) where
    pub months_read : (xs : List ℕ) (ys : List ℕ) → AllByRecursion (Read month_named decimal) xs → Behind ys
        → read_behind (list_text (codes ";BYMONTH=") decimal xs ++ ys) (parts_of f i w n u None None None) ≡ read_behind ys (parts_of f i w n u (list_part 0 xs) None None)
    unfolding lackb
    months_read [] ys h b = refl
    months_read (x ∷ xs) ys h b =
        let v = decimal x ++ flat_map (λ y. 44 ∷ decimal y) xs in
        front (codes "BYMONTH=" ++ v) ys (parts_of f i w n u None None None) (parts_of f i w n u (list_part 0 (x ∷ xs)) None None)
        (behind_name (codes "BYMONTH=") v refl (list_lacks month_named decimal x xs h)) b (given_once _ (few_of 0 (x ∷ xs)) _ (few_read month_named decimal 0 x xs h))

    pub month_days_read : (m : Option (Few ℕ)) (xs : List Ordinal) (ys : List ℕ) → AllByRecursion (Read month_day_named ordinal_text) xs → Behind ys
        → read_behind (list_text (codes ";BYMONTHDAY=") ordinal_text xs ++ ys) (parts_of f i w n u m None None) ≡ read_behind ys (parts_of f i w n u m (list_part (FromStart 0) xs) None)
    unfolding lackb
    month_days_read m [] ys h b = refl
    month_days_read m (x ∷ xs) ys h b =
        let v = ordinal_text x ++ flat_map (λ y. 44 ∷ ordinal_text y) xs in
        front (codes "BYMONTHDAY=" ++ v) ys (parts_of f i w n u m None None) (parts_of f i w n u m (list_part (FromStart 0) (x ∷ xs)) None)
        (behind_name (codes "BYMONTHDAY=") v refl (list_lacks month_day_named ordinal_text x xs h)) b (given_once _ (few_of (FromStart 0) (x ∷ xs)) _ (few_read month_day_named ordinal_text (FromStart 0) x xs h))

    pub week_days_read : (m : Option (Few ℕ)) (d : Option (Few Ordinal)) (xs : List DayEntry) (ys : List ℕ) → AllByRecursion (Read day_entry_named day_entry_text) xs → Behind ys
        → read_behind (list_text (codes ";BYDAY=") day_entry_text xs ++ ys) (parts_of f i w n u m d None) ≡ read_behind ys (parts_of f i w n u m d (list_part blank_day xs))
    unfolding lackb
    week_days_read m d [] ys h b = refl
    week_days_read m d (x ∷ xs) ys h b =
        let v = day_entry_text x ++ flat_map (λ y. 44 ∷ day_entry_text y) xs in
        front (codes "BYDAY=" ++ v) ys (parts_of f i w n u m d None) (parts_of f i w n u m d (list_part blank_day (x ∷ xs)))
        (behind_name (codes "BYDAY=") v refl (list_lacks day_entry_named day_entry_text x xs h)) b (given_once _ (few_of blank_day (x ∷ xs)) _ (few_read day_entry_named day_entry_text blank_day x xs h))

pub count_behind : (n : Option ℕ) → Behind (count_text n)
count_behind None = tt
count_behind (Some n) = refl

last_behind : (clock : ℕ) (t : Option Date) → Behind (last_text clock t)
last_behind clock None = tt
last_behind clock (Some t) = refl

pub until_behind : (clock : ℕ) (u : Option ℕ) → Behind (until_text clock u)
until_behind clock None = tt
until_behind clock (Some d) = last_behind clock (date_at (d - 1))

pub list_behind : {X : Type 0} (name : List ℕ) (text : X → List ℕ) (xs : List X) → Behind (list_text (59 ∷ name) text xs)
list_behind name text [] = tt
list_behind name text (x ∷ xs) = refl
