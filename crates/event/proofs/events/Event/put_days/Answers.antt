use Rattle.std.proofs.Common.{◌∷◌, arith}
use Rattle.event.specs.Agenda.{day_line, shown_days}
use Rattle.source.specs.Walks.{days_left}
use Rattle.event.proofs.Printing.{Along, along_none, along_past}
use Rattle.event.proofs.events.Event.put_days.Goals as goal

pub loop-day-init : goal.loop-day-init
loop-day-init g c =
    let s = c.args.self.now.series in
    let w = c.args.window in
    let f = c.first_day.ensures in
    let m = c.minutes-minute.ensures.value in
    rw (c.into_iter-day-iterator.ensures.into_iter_gives, c.days_from-day-items.ensures.left) (
    along_none (day_line c.args.self.now.uid s) s.clock.minutes w.from w.end (g.S.Source.days s.source) (g.met.S.Source.ascending s.source) (g.met.S.Source.bounded s.source) c.args.page.now c.first_day.result
    (omega arith) (λ d h. omega (arith, f.below d h, m)) (omega (arith, f.above c.first_day.result (omega arith), m)) (rw (c.days_from-day-items.ensures.left) at c.days_from-day-items.ensures.few)
    )

pub returns-then-day-minute-clause-cases : goal.returns-then-day-minute-clause-cases
returns-then-day-minute-clause-cases g c =
    let s = c.args.self.now.series in
    let w = c.args.window in
    let v : Along (day_line c.args.self.now.uid s) s.clock.minutes w.from w.end (shown_days g.S.Source.days s w) (c.in-Some.day ∷ days_left g.S.Source.days c.next.new.self) c.loop-day.lines c.args.page.now c.loop-day.page =
    rw (c.in-Some.ensures.steps) at c.loop-day.invariant in
    let a = along_past (day_line c.args.self.now.uid s) s.clock.minutes w.from w.end (shown_days g.S.Source.days s w) c.in-Some.day _ c.loop-day.lines c.args.page.now c.loop-day.page
    (omega (arith, c.if-day-minute.true, c.minutes-minute.ensures.value)) v in
    (a.1, a.0)
