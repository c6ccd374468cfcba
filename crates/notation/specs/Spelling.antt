-- Which texts spell an interval, as a grammar, and that just these are read.
use Rattle.std.specs.Prelude.{◌≡◌, ℕ, ◌+◌, ◌*◌, ◌≤◌, List, [], ◌∷◌, ◌++◌, length, Some, Ok}
use Rattle.std.specs.List.{AllByRecursion}
use Rattle.calendar.specs.declared.starts.Moment.{Moment}
use Rattle.calendar.specs.Dates.{day_at}
use Rattle.notation.specs.declared.intervals.Spelled.{Spelled}
use Rattle.notation.specs.Dates.{date_named}
use Rattle.notation.specs.Digits.{value_from}
use Rattle.notation.specs.Intervals.{interval_named}

-- digits, so many of them, that write n
pub record Writes (least most : ℕ) (xs : List ℕ) (n : ℕ) : Type 0 where
  pub enough : least ≤ length xs
  pub few : length xs ≤ most
  pub digits : AllByRecursion (λ x. (48 ≤ x) × (x ≤ 57)) xs
  pub value : value_from 0 xs ≡ n

-- yyyymmdd, T, hhmm, 00: a date that exists, and a time from 0000 to 2359
pub record SpellsMoment (xs : List ℕ) (m : Moment) : Type 0 where
  pub date : List ℕ
  pub time : List ℕ
  pub day : ℕ
  pub hour : ℕ
  pub minute : ℕ
  pub text : xs ≡ date ++ (84 ∷ time)
  pub dated : Writes 8 8 date day
  pub timed : Writes 6 6 time (hour * 10000 + minute * 100)
  pub exists : day_at (date_named day) ≡ Some m.day
  pub hours : hour ≤ 23
  pub minutes : minute ≤ 59
  pub clock : m.clock ≡ hour * 60 + minute

-- R, a number, a slash, a moment, a slash, P, a number, D
pub record SpellsInterval (xs : List ℕ) (v : Spelled) : Type 0 where
  pub count : List ℕ
  pub moment : List ℕ
  pub step : List ℕ
  pub text : xs ≡ (82 ∷ count) ++ (47 ∷ (moment ++ (47 ∷ ((80 ∷ step) ++ (68 ∷ [])))))
  pub counted : Writes 1 5 count v.count
  pub begun : SpellsMoment moment v.start
  pub stepped : Writes 1 5 step v.step

-- a text is read as an interval just where it spells it
abbrev pub Spelling : Type 0
Spelling = (xs : List ℕ) (v : Spelled) → (interval_named xs ≡ Ok v → SpellsInterval xs v) × (SpellsInterval xs v → interval_named xs ≡ Ok v)
