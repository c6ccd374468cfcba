-- What the words that name the days give.
use Rattle.std.specs.Prelude.{◌≡◌, ℕ, List, Ok}
use Rattle.calendar.specs.declared.starts.Moment.{Moment}
use Rattle.notation.specs.Dates.{moment_named}
use Rattle.notation.specs.declared.intervals.Spelled.{Spelled}
use Rattle.rule.specs.declared.rules.Rule.{Rule}
use Rattle.rule_text.specs.Reading.{recurrence_named, RuleOf}
use Rattle.source.specs.declared.intervals.Interval.{Interval}
use Rattle.arguments.specs.declared.timed.Timed.{Timed}

-- an interval gives the days and the clock
abbrev pub spelled : Timed Interval → Spelled
spelled t = record { count = t.source.count; start = record { day = t.source.start; clock = t.clock.minutes }; step = t.source.step }

-- a start and a rule do
pub record Recurs (start rule : List ℕ) (t : Timed Rule) : Type 0 where
  pub begun : Moment
  pub starts : moment_named start ≡ Ok begun
  pub clock : t.clock.minutes ≡ begun.clock
  pub days : RuleOf begun.day (recurrence_named begun.clock rule) t.source
