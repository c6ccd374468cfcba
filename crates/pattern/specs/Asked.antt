-- What is asked of a pattern, and of the days between which its days are found.
use Rattle.std.specs.Prelude.{ℕ, ◌<◌, ◌≤◌}
use Rattle.recurrence.specs.declared.parts.Pattern.{Pattern}

-- what `skip` asks of its pattern, at each day
pub record Usable (p : Pattern) : Type 0 where
  pub some : 1 ≤ p.interval
  pub few : p.interval ≤ 999
  pub months : p.months.len ≤ 12
  pub month_days : p.month_days.len ≤ 12
  pub week_days : p.week_days.len ≤ 12

-- start and end are in the calendar
pub record Asked (p : Pattern) (start from end : ℕ) : Type 0 where
  pub usable : Usable p
  pub begun : start < 109573
  pub forward : from ≤ end
  pub ended : end ≤ 109573
