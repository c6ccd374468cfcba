use Rattle.event.specs.Agenda.{day_line, shown_days}
use Rattle.event.proofs.Printing.{Along}
use Rattle.source.specs.Walks.{days_left}
use Rattle.event.proofs.events.Event.put_days.Given as goal

abbrev pub invariant-loop-day : goal.invariant-loop-day
invariant-loop-day g l =
    Along (day_line l.self.uid l.self.series) l.self.series.clock.minutes l.window.from l.window.end (shown_days g.S.Source.days l.self.series l.window)
    (days_left g.S.Source.days l.day-iterator) l.lines l.initial.page l.page
