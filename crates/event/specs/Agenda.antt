-- The agenda of one event: a line for each of its days that starts in the window.
use Rattle.std.specs.Prelude.{◌≡◌, ℕ, ◌+◌, ◌<◌, Bool, true, cond, ◌&&◌, List, length, filter, nat_le, nat_lt}
use Rattle.std.specs.List.{flat_map}
use Rattle.calendar.specs.Dates.{date_of}
use Rattle.calendar.specs.Starts.{start_of}
pub use Rattle.calendar.specs.Starts.{is_window}
use Rattle.calendar.specs.declared.windows.Window.{Window}
use Rattle.page.specs.Lines.{line_text}
use Rattle.page.specs.declared.pages.Page.{Page}
use Rattle.page.specs.Pages.{Puts}
use Rattle.refusal.specs.declared.Refusal.{Refusal}
use Rattle.refusal.specs.Numbers.{number as number_of}
use Rattle.series.specs.declared.records.Series.{Series}
use Rattle.series.specs.Values.{Uid, text_octets, uid_octets}

-- whether the occurrence on day d starts in the window
abbrev pub in_window : ℕ → ℕ → ℕ → ℕ → Bool
in_window clock from end d = nat_le from (start_of d clock) && nat_lt (start_of d clock) end

module _ {S : Type 0} where
  -- the line of the occurrence on day d
  abbrev pub day_line : Uid → Series S → ℕ → List ℕ
  day_line u s d = line_text (date_of d) s.clock.minutes s.duration.minutes (uid_octets u) (text_octets s.text)

  module _ (days : S → List ℕ) where
    -- the event's days that start in the window
    abbrev pub shown_days : Series S → Window → List ℕ
    shown_days s w = filter (in_window s.clock.minutes w.from w.end) (days s.source)

    -- their lines, one behind the other
    abbrev pub agenda_text : Uid → Series S → Window → List ℕ
    agenda_text u s w = flat_map (day_line u s) (shown_days s w)

    -- n lines were printed
    pub record Printed (u : Uid) (s : Series S) (w : Window) (n : ℕ) (p q : Page) : Type 0 where
      pub window : is_window w.from w.end ≡ true
      pub lines : n ≡ length (shown_days s w)
      pub page : Puts (agenda_text u s w) p q

    -- nothing was printed: 24 where there is no such window, else 23 where the lines do not fit
    pub record Refused (u : Uid) (s : Series S) (w : Window) (p q : Page) (e : Refusal) : Type 0 where
      pub number : number_of e ≡ cond (is_window w.from w.end) 23 24
      pub short : is_window w.from w.end ≡ true → length p.octets.now < p.len + length (agenda_text u s w)
      pub len : q.len ≡ p.len
