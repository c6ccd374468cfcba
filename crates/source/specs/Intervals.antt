-- The days of an interval.
use Rattle.std.specs.Prelude.{◌≡◌, ℕ, zero, suc, ◌+◌, ◌-◌, ◌*◌, ◌<◌, ◌≤◌, Bool, cond, ◌&&◌, List, [], ◌∷◌, length, Some, None, nat_le, nat_lt}
use Rattle.calendar.specs.Years.{last_day}
use Rattle.source.specs.declared.intervals.Interval.{Interval}
use Rattle.source.specs.Days.{before, since, first_from}

-- the numbers that an interval may be made of
abbrev pub in_bounds : ℕ → ℕ → ℕ → Bool
in_bounds start step count = nat_le start last_day && ((nat_le 1 step && nat_le step 999) && (nat_le 1 count && nat_le count 10000))

-- n days, the first of them start, each step after the one before
abbrev pub ticks : ℕ → ℕ → ℕ → List ℕ
ticks start step zero = []
ticks start step (suc n) = start ∷ ticks (start + step) step n

-- none past the last day
abbrev pub interval_days : Interval → List ℕ
interval_days i = before (last_day + 1) (ticks i.start i.step i.count)

-- of the n days m lie before d
pub record Cut (start step n m d : ℕ) : Type 0 where
  pub within : m ≤ n
  pub under : (j : ℕ) → j < m → start + j * step < d
  pub over : m < n → d ≤ start + m * step

-- of the days of an interval low lie before d, and there are high in all
pub record Placed (i : Interval) (d low high : ℕ) : Type 0 where
  pub few : high ≤ i.count
  pub within : low ≤ high
  pub last : low < high → i.start + low * i.step ≤ last_day
  pub first : first_from d (interval_days i) ≡ cond (nat_lt low high) (Some (i.start + low * i.step)) None
  pub head : before (last_day + 1) (ticks i.start i.step low) ≡ before d (interval_days i)
  pub head_count : low ≡ length (before (last_day + 1) (ticks i.start i.step low))
  pub tail : before (last_day + 1) (ticks (i.start + low * i.step) i.step (high - low)) ≡ since d (interval_days i)
  pub tail_count : high - low ≡ length (before (last_day + 1) (ticks (i.start + low * i.step) i.step (high - low)))
  pub none : high ≤ low → [] ≡ since d (interval_days i)
