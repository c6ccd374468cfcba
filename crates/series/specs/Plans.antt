-- What a series means, and its occurrences.
use Rattle.std.specs.Prelude.{ℕ, Bool, true, false, List, map}
use Rattle.bounded.specs.Held.{held}
use Rattle.calendar.specs.Starts.{start_of}
use Rattle.series.specs.declared.changes.Override.{Override}
use Rattle.series.specs.declared.overrides.Overrides.{Overrides}
use Rattle.series.specs.declared.stored.StoredSeries.{StoredSeries}
use Rattle.series.specs.Marks.{Mark, plain, cancelled, altered, mark_on}
use Rattle.series.specs.Values.{text_octets}

-- what a series means: its days, what they carry, and what became of each
pub record Plan : Type 0 where
  pub days : List ℕ
  pub clock : ℕ
  pub duration : ℕ
  pub text : List ℕ
  pub marks : ℕ → Mark

-- one occurrence, with what it carries
pub record Occurrence : Type 0 where
  pub uid : List ℕ
  pub day : ℕ
  pub clock : ℕ
  pub duration : ℕ
  pub text : List ℕ
  pub mark : Mark

-- the occurrence of a plan on one of its days
abbrev pub on : List ℕ → Plan → ℕ → Occurrence
on u p d = record { uid = u; day = d; clock = p.clock; duration = p.duration; text = p.text; mark = p.marks d }

-- one occurrence for each day
abbrev pub occurrences_of : List ℕ → Plan → List Occurrence
occurrences_of u p = map (on u p) p.days

abbrev pub start_by : Mark → ℕ → ℕ
start_by plain n = n
start_by cancelled n = n
start_by (altered start text) n = start

abbrev pub text_by : Mark → List ℕ → List ℕ
text_by plain t = t
text_by cancelled t = t
text_by (altered start text) t = text

abbrev pub live_by : Mark → Bool
live_by plain = true
live_by cancelled = false
live_by (altered start text) = true

-- what an occurrence shows: an altered one its own start and text
abbrev pub shown_start : Occurrence → ℕ
shown_start o = start_by o.mark (start_of o.day o.clock)

abbrev pub shown_text : Occurrence → List ℕ
shown_text o = text_by o.mark o.text

-- live means not cancelled
abbrev pub live : Occurrence → Bool
live o = live_by o.mark

abbrev pub overrides_of : Overrides → List Override
overrides_of m = held m.items.list

module _ {S : Type 0} (days : S → List ℕ) where
  -- a source with what its days carry
  abbrev pub plan_from : S → ℕ → ℕ → List ℕ → Overrides → Plan
  plan_from source clock duration text m = record { days = days source; clock = clock; duration = duration; text = text; marks = mark_on (overrides_of m) }

  abbrev pub plan_of : StoredSeries S → Plan
  plan_of s = plan_from s.repeats.source s.repeats.clock.minutes s.repeats.duration.minutes (text_octets s.repeats.text) s.overrides
