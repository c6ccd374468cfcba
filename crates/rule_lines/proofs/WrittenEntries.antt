-- The entries of the lists are read back.
use Rattle.std.proofs.Common.{◌≡◌, ℕ, ◌+◌, ◌-◌, ◌<◌, ◌≤◌, Bool, true, leb, List, [], ◌∷◌, ◌++◌, length, decimal, Some, None, Option, refl, ap, ◌∙◌, arith}
use Rattle.std.specs.Option.{option_map}
use Rattle.std.specs.List.{AllByRecursion, list_all}
use Rattle.std.proofs.ByRecursion.{All-append}
use Rattle.std.proofs.lemmas.List.{length-append, take_at, drop_at}
use Rattle.std.proofs.lemmas.Bool.{and_parts, leb-true, le-leb}
use Rattle.calendar.specs.declared.weekdays.Weekday.{Weekday}
use Rattle.calendar.specs.declared.weekdays.Weekday.TheVariants.{Monday, Tuesday, Wednesday, Thursday, Friday, Saturday, Sunday}
use Rattle.recurrence.specs.declared.parts.DayEntry.{DayEntry}
use Rattle.recurrence.specs.declared.parts.Ordinal.{Ordinal}
use Rattle.recurrence.specs.declared.parts.Ordinal.TheVariants.{FromStart, FromEnd}
use Rattle.recurrence.specs.Bounds.{within, number, month_fits, month_day_fits, ordinal_fits, day_entry_fits}
use Rattle.rule_text.specs.Entries.{month_named, signed, month_day_named, ordinal_named, day_entry_named}
use Rattle.rule_text.specs.Words.{weekday_named}
use Rattle.rule_lines.specs.Writing.{ordinal_text, text_if, weekday_text, day_entry_text}
use Rattle.rule_lines.proofs.WrittenLists.{Read}
use Rattle.rule_lines.proofs.WrittenNumbers.{Plain, decimal_plain, decimal_short, from_start, from_end}

pub up_to : (low high n : ℕ) → within low high n ≡ true → n ≤ high
up_to low high n e = leb-true n high (and_parts (leb low n) (leb n high) e).1

minus_plain : (n : ℕ) → n < 100 → AllByRecursion Plain (45 ∷ decimal n)
minus_plain n h = (((λ e. omega (arith, e)), (λ e. omega (arith, e))), decimal_plain n (omega arith))

month_read : (m : ℕ) → month_fits m ≡ true → Read month_named decimal m
month_read m e = let h : m < 100 = omega (arith, up_to 1 12 m e) in record { back = decimal_short m h; plain = decimal_plain m (omega arith) }

ordinal_read : (high : ℕ) → high < 100 → (o : Ordinal) → within 1 high (number o) ≡ true → Read month_day_named ordinal_text o
ordinal_read high k (FromStart n) e =
    let h : n < 100 = omega (arith, up_to 1 high n e) in
    record { back = from_start n h; plain = decimal_plain n (omega arith) }
ordinal_read high k (FromEnd n) e =
    let h : n < 100 = omega (arith, up_to 1 high n e) in
    record { back = from_end n h; plain = minus_plain n h }

given_named : (ds : List ℕ) (o : Ordinal) → signed ds ≡ Some o → ordinal_named ds ≡ Some (Some o)
given_named [] o e = cc
given_named (x ∷ xs) o e = ap (option_map Some) e

ordinal_if_read : (o : Option Ordinal) → ordinal_fits o ≡ true → Read ordinal_named (text_if ordinal_text) o
ordinal_if_read None e = record { back = refl; plain = tt }
ordinal_if_read (Some o) e = let r = ordinal_read 53 (omega arith) o e in record { back = given_named (ordinal_text o) o r.back; plain = r.plain }

-- two letters
letters : (x y : ℕ) → 65 ≤ x → 65 ≤ y → AllByRecursion Plain (x ∷ y ∷ [])
letters x y h k = (((λ e. omega arith), (λ e. omega arith)), (((λ e. omega arith), (λ e. omega arith)), tt))

weekday_read : (w : Weekday) → Read weekday_named weekday_text w
weekday_read Monday = record { back = refl; plain = letters _ _ (omega arith) (omega arith) }
weekday_read Tuesday = record { back = refl; plain = letters _ _ (omega arith) (omega arith) }
weekday_read Wednesday = record { back = refl; plain = letters _ _ (omega arith) (omega arith) }
weekday_read Thursday = record { back = refl; plain = letters _ _ (omega arith) (omega arith) }
weekday_read Friday = record { back = refl; plain = letters _ _ (omega arith) (omega arith) }
weekday_read Saturday = record { back = refl; plain = letters _ _ (omega arith) (omega arith) }
weekday_read Sunday = record { back = refl; plain = letters _ _ (omega arith) (omega arith) }

weekday_two : (w : Weekday) → length (weekday_text w) ≡ 2
weekday_two Monday = refl
weekday_two Tuesday = refl
weekday_two Wednesday = refl
weekday_two Thursday = refl
weekday_two Friday = refl
weekday_two Saturday = refl
weekday_two Sunday = refl

day_entry_read : (e : DayEntry) → day_entry_fits e ≡ true → Read day_entry_named day_entry_text e
day_entry_read e f =
    let o = text_if ordinal_text e.ordinal in
    let w = weekday_text e.weekday in
    let l : length (o ++ w) ≡ length o + 2 = length-append o w ∙ ap (λ k. length o + k) (weekday_two e.weekday) in
    let k : length o ≡ length (o ++ w) - 2 = omega arith in
    let p = ordinal_if_read e.ordinal f in
    let q = weekday_read e.weekday in
    record {
      back = rw (le-leb 2 (length (o ++ w)) (omega arith), take_at o w (length (o ++ w) - 2) k, drop_at o w (length (o ++ w) - 2) k, p.back, q.back) refl;
      plain = All-append Plain o w p.plain q.plain;
    }

module _ {X : Type 0} (named : List ℕ → Option X) (text : X → List ℕ) (fits : X → Bool) (each : (x : X) → fits x ≡ true → Read named text x) where
  all_read : (xs : List X) → list_all fits xs ≡ true → AllByRecursion (Read named text) xs
  all_read [] e = tt
  all_read (x ∷ xs) e = let p = and_parts (fits x) (list_all fits xs) e in (each x p.0, all_read xs p.1)

pub months_read : (xs : List ℕ) → list_all month_fits xs ≡ true → AllByRecursion (Read month_named decimal) xs
months_read = all_read month_named decimal month_fits month_read

pub month_days_read : (xs : List Ordinal) → list_all month_day_fits xs ≡ true → AllByRecursion (Read month_day_named ordinal_text) xs
month_days_read = all_read month_day_named ordinal_text month_day_fits (ordinal_read 31 (omega arith))

pub day_entries_read : (xs : List DayEntry) → list_all day_entry_fits xs ≡ true → AllByRecursion (Read day_entry_named day_entry_text) xs
day_entries_read = all_read day_entry_named day_entry_text day_entry_fits day_entry_read
