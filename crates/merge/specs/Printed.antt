-- The agenda of some occurrences on a page: a line for each that is live and starts in the window, in order.
use Rattle.std.specs.Prelude.{◌≡◌, ℕ, ◌+◌, ◌/◌, ◌%◌, ◌<◌, true, cond, List, map, length}
use Rattle.std.specs.List.{flat_map}
use Rattle.calendar.specs.Dates.{date_of}
use Rattle.calendar.specs.Starts.{is_window}
use Rattle.calendar.specs.declared.windows.Window.{Window}
use Rattle.history.specs.Agendas.{IsAgenda}
use Rattle.history.specs.States.{Plans}
use Rattle.page.specs.Lines.{line_text}
use Rattle.page.specs.Pages.{Puts}
use Rattle.page.specs.declared.pages.Page.{Page}
use Rattle.refusal.specs.declared.Refusal.{Refusal}
use Rattle.refusal.specs.Numbers.{number as number_of}
use Rattle.series.specs.Plans.{Occurrence, plan_of, shown_start, shown_text}
use Rattle.store.specs.declared.pairs.Pair.{Pair}
use Rattle.store.specs.Pairs.{key}

-- date and clock of the shown start, duration, UID, shown text
abbrev pub occurrence_line : Occurrence → List ℕ
occurrence_line o = line_text (date_of (shown_start o / 1440)) (shown_start o % 1440) o.duration o.uid (shown_text o)

module _ {S : Type 0} (days : S → List ℕ) where
  -- what the pairs of a store mean
  abbrev pub plans_of : List (Pair S) → Plans
  plans_of ps = map (λ p. (key p, plan_of days p.series)) ps

-- n lines were printed: p and q are the page before and after
pub record Printed (os : List Occurrence) (w : Window) (n : ℕ) (p q : Page) : Type 0 where
  pub window : is_window w.from w.end ≡ true
  pub lines : List Occurrence
  pub agenda : IsAgenda os w.from w.end lines
  pub count : n ≡ length lines
  pub page : Puts (flat_map occurrence_line lines) p q

-- no agenda fits behind what is written
abbrev pub NoneFits : List Occurrence → Window → Page → Type 0
NoneFits os w p = (k : List Occurrence) → IsAgenda os w.from w.end k → length p.octets.now < p.len + length (flat_map occurrence_line k)

-- nothing was printed: 24 where there is no such window, else 23 where the lines do not fit
pub record Refused (os : List Occurrence) (w : Window) (p q : Page) (e : Refusal) : Type 0 where
  pub number : number_of e ≡ cond (is_window w.from w.end) 23 24
  pub short : is_window w.from w.end ≡ true → NoneFits os w p
  pub len : q.len ≡ p.len

-- nothing was printed, for want of nodes: 24 where there is no such window, else 23
pub record Crowded (w : Window) (p q : Page) (e : Refusal) : Type 0 where
  pub number : number_of e ≡ cond (is_window w.from w.end) 23 24
  pub len : q.len ≡ p.len
