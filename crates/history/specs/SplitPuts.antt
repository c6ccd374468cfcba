-- Split: what it puts. The plan is cut at the day, and the marks go with their days.
use Rattle.std.specs.Prelude.{cond, ltb, leb, [], ◌∷◌, Some, filter, nat_le, nat_lt}
use Rattle.series.specs.Marks.{plain}
use Rattle.series.specs.Plans.{Plan}
use Rattle.history.specs.Splits.{Split}
use Rattle.history.specs.States.{Record}

-- the days before
abbrev pub head_plan : Split → Plan → Plan
head_plan e p = record { days = filter (λ x. ltb x e.day) p.days; clock = p.clock; duration = p.duration; text = p.text; marks = λ x. cond (nat_lt x e.day) (p.marks x) plain }

-- the days from there on
abbrev pub tail_plan : Split → Plan → Plan
tail_plan e p = record { days = filter (λ x. leb e.day x) p.days; clock = e.clock; duration = e.duration; text = e.text; marks = λ x. cond (nat_le e.day x) (p.marks x) plain }

abbrev pub split_puts : Split → Plan → Record
split_puts e p = (e.uid, Some (head_plan e p)) ∷ (e.new, Some (tail_plan e p)) ∷ []
