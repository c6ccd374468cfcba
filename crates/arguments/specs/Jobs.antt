-- What a job has from its words, and what is printed of it.
use Rattle.std.specs.Prelude.{◌≡◌, ℕ, ◌+◌, ◌*◌, List, ◌++◌, length, Ok}
use Rattle.std.specs.Borrow.{Bor}
use Rattle.calendar.specs.Dates.{date_of}
use Rattle.calendar.specs.declared.windows.Window.{Window}
use Rattle.event.specs.Agenda.{agenda_text, shown_days}
use Rattle.page.specs.Summaries.{summary_text}
use Rattle.source.specs.Intervals.{interval_days}
use Rattle.notation.specs.Dates.{day_named}
use Rattle.notation.specs.Digits.{number}
use Rattle.notation.specs.Intervals.{interval_named}
use Rattle.series.specs.Values.{text_octets, uid_octets}
use Rattle.arguments.specs.Faults.{word_at}
use Rattle.arguments.specs.Words.{spelled, Recurs}
use Rattle.arguments.specs.declared.timed.Timed.{Timed}
use Rattle.arguments.specs.declared.timed.Shared.{Shared as Words}
use Rattle.rule.specs.declared.rules.Rule.{Rule}
use Rattle.rule.specs.Cut.{days_in}
use Rattle.source.specs.declared.intervals.Interval.{Interval}
use Rattle.arguments.specs.declared.job.Days.{Days}
use Rattle.arguments.specs.declared.job.Job.{Job}
use Rattle.arguments.specs.declared.job.Command.{Command}
use Rattle.arguments.specs.declared.job.Command.TheVariants.{ByInterval, ByRule}

-- the words that both forms have
pub record Shared {S : Type 0} (uid duration text first last : List ℕ) (j : Job S) : Type 0 where
  pub named : uid_octets j.event.uid ≡ uid
  pub minutes : number duration ≡ Ok j.event.series.duration.minutes
  pub shown : text_octets j.event.series.text ≡ text
  pub begins : day_named first ≡ Ok j.days.first
  pub ends : day_named last ≡ Ok j.days.last

-- its days and their clock
abbrev pub timed_of : {S : Type 0} → Job S → Timed S
timed_of j = record { source = j.event.series.source; clock = j.event.series.clock }

abbrev pub HasShared : {S : Type 0} → Words → Job S → Type 0
HasShared w j = Shared w.uid.now w.duration.now w.text.now w.first.now w.last.now j

-- an interval gives the days and the clock
pub record ReadsInterval (uid interval duration text first last : List ℕ) (j : Job Interval) : Type 0 where
  pub shared : Shared uid duration text first last j
  pub days : interval_named interval ≡ Ok (spelled (timed_of j))

-- a start and a rule do
pub record ReadsRecurring (uid start rule duration text first last : List ℕ) (j : Job Rule) : Type 0 where
  pub shared : Shared uid duration text first last j
  pub recurs : Recurs start rule (timed_of j)

-- the same of the words of a command line
abbrev pub ReadsAll : List (Bor (List ℕ)) → Command → Type 0
ReadsAll ws (ByInterval j) = ReadsInterval (word_at ws 0) (word_at ws 1) (word_at ws 2) (word_at ws 3) (word_at ws 4) (word_at ws 5) j
ReadsAll ws (ByRule j) = ReadsRecurring (word_at ws 0) (word_at ws 1) (word_at ws 2) (word_at ws 3) (word_at ws 4) (word_at ws 5) (word_at ws 6) j

-- the window of two days, in minutes: both are whole
abbrev pub window_of : Days → Window
window_of d = record { from = d.first * 1440; end = (d.last + 1) * 1440 }

-- the summary of so many lines
abbrev pub total_text : ℕ → Days → List ℕ
total_text n d = summary_text n (date_of d.first) (date_of d.last)

module _ {S : Type 0} (days : S → List ℕ) where
  abbrev pub job_lines : Job S → ℕ
  job_lines j = length (shown_days days j.event.series (window_of j.days))

  -- the event's lines, and the summary
  abbrev pub job_text : Job S → List ℕ
  job_text j = agenda_text days j.event.uid j.event.series (window_of j.days) ++ total_text (job_lines j) j.days

abbrev pub command_lines : Command → ℕ
command_lines (ByInterval j) = job_lines interval_days j
command_lines (ByRule j) = job_lines days_in j

abbrev pub command_text : Command → List ℕ
command_text (ByInterval j) = job_text interval_days j
command_text (ByRule j) = job_text days_in j
