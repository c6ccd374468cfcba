-- The agenda as a relation: in order, and exactly the chosen occurrences.
use Rattle.std.specs.Prelude.{◌≡◌, ℕ, ◌<◌, Bool, true, ◌&&◌, ◌⊎◌, ◌↔◌, List, nat_le, nat_lt}
use Rattle.series.specs.Members.{Mem, Ordered}
use Rattle.series.specs.Order.{Ahead}
use Rattle.series.specs.Plans.{Occurrence, live, shown_start}

-- shown start, then UID, then day
abbrev pub Before : Occurrence → Occurrence → Type 0
Before o p = (shown_start o < shown_start p) ⊎ ((shown_start o ≡ shown_start p) × (Ahead o.uid p.uid ⊎ ((o.uid ≡ p.uid) × (o.day < p.day))))

-- the list has, in order, those of the occurrences that are chosen, and no other
pub record Lists (chosen : Occurrence → Bool) (os l : List Occurrence) : Type 0 where
  pub ordered : Ordered Before l
  pub members : (o : Occurrence) → Mem o l ↔ (Mem o os × (chosen o ≡ true))

-- live, and starting in the window
abbrev pub in_window : ℕ → ℕ → Occurrence → Bool
in_window from end o = live o && (nat_le from (shown_start o) && nat_lt (shown_start o) end)

abbrev pub IsAgenda : List Occurrence → ℕ → ℕ → List Occurrence → Type 0
IsAgenda os from end l = Lists (in_window from end) os l
