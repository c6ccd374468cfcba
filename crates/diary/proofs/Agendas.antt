-- What is printed of a diary is printed of the history that explains it.
use Rattle.std.proofs.Common.{ℕ, Ok, Err, Result, MatchResult}
use Rattle.calendar.specs.declared.windows.Window.{Window}
use Rattle.page.specs.declared.pages.Page.{Page}
use Rattle.refusal.specs.declared.Refusal.{Refusal}
use Rattle.history.specs.Explains.{Explains}
use Rattle.history.specs.Histories.{History}
use Rattle.history.specs.Items.{read}
use Rattle.history.specs.States.{State, Ascends, occurrences}
use Rattle.history.proofs.Explained.{agenda_explained}
use Rattle.merge.specs.Printed.{Printed, Refused}

module _ (h : History) (st : State) (ex : Explains h st) (asc : Ascends st.plans) (w : Window) (p q : Page) where
  pub printed_explained : (r : Result ℕ Refusal)
      → MatchResult r (λ n. Printed (occurrences st.plans) w n p q) (λ e. Refused (occurrences st.plans) w p q e)
      → MatchResult r (λ n. Printed (read h.items) w n p q) (λ e. Refused (read h.items) w p q e)
  printed_explained (Ok n) c = record {
    window = c.window;
    lines = c.lines;
    agenda = (agenda_explained h st ex asc w.from w.end c.lines).0 c.agenda;
    count = c.count;
    page = c.page;
  }
  printed_explained (Err e) c = record {
    number = c.number;
    short = λ i k a. c.short i k ((agenda_explained h st ex asc w.from w.end k).1 a);
    len = c.len;
  }
