-- Starts: a day and a minute of it as one number, day × 1440 + clock.
use Rattle.std.specs.Prelude.{◌≡◌, ℕ, ◌+◌, ◌*◌, ◌/◌, ◌%◌, Bool, cond, ◌&&◌, Some, None, Option, nat_le, nat_lt}
use Rattle.calendar.specs.declared.starts.Moment.{Moment}
use Rattle.calendar.specs.Years.{last_day}

-- one past the last start
abbrev pub starts_end : ℕ
starts_end = 157785120

-- a window does not end before it begins, nor past the last start
abbrev pub is_window : ℕ → ℕ → Bool
is_window from end = nat_le from end && nat_le end starts_end

abbrev pub start_of : ℕ → ℕ → ℕ
start_of day clock = day * 1440 + clock

abbrev pub is_moment : Moment → Bool
is_moment m = nat_le m.day last_day && nat_lt m.clock 1440

abbrev pub start_at : Moment → Option ℕ
start_at m = cond (is_moment m) (Some (start_of m.day m.clock)) None

abbrev pub moment_at : ℕ → Option Moment
moment_at s = cond (nat_lt s starts_end) (Some (record { day = s / 1440; clock = s % 1440 })) None

-- a start has one moment, and a moment one start
abbrev pub Parts : Type 0
Parts = (s : ℕ) (m : Moment) → (moment_at s ≡ Some m → start_at m ≡ Some s) × (start_at m ≡ Some s → moment_at s ≡ Some m)
