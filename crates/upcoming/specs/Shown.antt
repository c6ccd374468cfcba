-- What a plan shows: its live occurrences, each with its start.
use Rattle.std.specs.Prelude.{◌≡◌, ℕ, true}
use Rattle.calendar.specs.Starts.{start_of}
use Rattle.series.specs.Members.{Mem}
use Rattle.series.specs.Plans.{Plan, start_by, live_by}

-- the plan has a live occurrence of the day d that starts at s
pub record Shows (p : Plan) (s d : ℕ) : Type 0 where
  pub among : Mem d p.days
  pub alive : live_by (p.marks d) ≡ true
  pub starts : s ≡ start_by (p.marks d) (start_of d p.clock)
