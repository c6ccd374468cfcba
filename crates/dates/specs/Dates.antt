-- The days of a date list, and where a number cuts them.
use Rattle.std.specs.Prelude.{◌≡◌, ℕ, ◌≤◌, cond, List, length, take, drop, Some, None, nat_lt, slice_index}
use Rattle.bounded.specs.Held.{held}
use Rattle.dates.specs.declared.dates.DateList.{DateList}
use Rattle.source.specs.Days.{before, since, first_from}

abbrev pub date_days : DateList → List ℕ
date_days l = held l.days.list

-- of the days of a date list n lie before d
pub record Split (l : DateList) (d n : ℕ) : Type 0 where
  pub within : n ≤ length (date_days l)
  pub first : first_from d (date_days l) ≡ cond (nat_lt n (length (date_days l))) (Some (slice_index (date_days l) n)) None
  pub head : take n (date_days l) ≡ before d (date_days l)
  pub tail : drop n (date_days l) ≡ since d (date_days l)
