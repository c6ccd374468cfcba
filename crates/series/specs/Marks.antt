-- What became of the days of a series: cancelled, altered, or plain.
use Rattle.std.specs.Prelude.{◌≡◌, ℕ, ◌<◌, Bool, true, cond, ◌&&◌, List, [], ◌∷◌, length, Some, None, Option, ◌==◌, nat_le, nat_lt, slice_index_or}
use Rattle.bounded.specs.Climbing.{climbing}
use Rattle.calendar.specs.Starts.{starts_end}
use Rattle.series.specs.declared.changes.Change.{Change}
use Rattle.series.specs.declared.changes.Change.TheVariants.{Cancelled, Altered}
use Rattle.series.specs.declared.changes.Override.{Override}
use Rattle.series.specs.Values.{text_octets}

pub data Mark : Type 0 where
  plain : Mark
  cancelled : Mark
  altered : (start : ℕ) → (text : List ℕ) → Mark

abbrev pub mark_of : Change → Mark
mark_of Cancelled = cancelled
mark_of (Altered a) = altered a.start (text_octets a.text)

-- a day without a change is plain
abbrev pub mark_from : Option Change → Mark
mark_from None = plain
mark_from (Some c) = mark_of c

-- what the overrides say of a day
abbrev pub mark_on : List Override → ℕ → Mark
mark_on [] d = plain
mark_on (o ∷ os) d = cond (o.day == d) (mark_of o.change) (mark_on os d)

-- an alteration starts at a start there is
abbrev pub change_fits : Change → Bool
change_fits Cancelled = true
change_fits (Altered a) = nat_lt a.start starts_end

-- the first day is at least so much, each other comes after the one before it, and all is in bounds
abbrev pub overrides_fit : ℕ → List Override → Bool
overrides_fit = climbing (λ o. o.day) (λ o. change_fits o.change)

-- the overrides that a map can hold
abbrev pub map_holdable : List Override → Bool
map_holdable os = nat_le (length os) 24 && overrides_fit 0 os

-- the override at i says what became of the day d
pub record At (os : List Override) (d i : ℕ) : Type 0 where
  pub within : i < length os
  pub says : (o : Override) → mark_of (slice_index_or os i o).change ≡ mark_on os d

-- where the override of a day stands, or that it has none
abbrev pub Place : List Override → ℕ → Option ℕ → Type 0
Place os d None = mark_on os d ≡ plain
Place os d (Some i) = At os d i
