use Rattle.std.proofs.Common.{◌≡◌, length, arith}
use Rattle.std.proofs.lemmas.Result.{err_from_is_err_and}
use Rattle.merge.specs.Places.{named}
use Rattle.merge.proofs.Standing.{near}
use Rattle.merge.proofs.Written.{line_long, writes_none, prints_none, seated, shown, day_near, in_time, prints, none_fits, replays, writes_more}
use Rattle.merge.proofs.agendas.put_lines.Goals as goal

pub returns-then-count-eq0-clause-cases : goal.returns-then-count-eq0-clause-cases
returns-then-count-eq0-clause-cases g c =
    let days = g.St.Source.Source.days in
    let ps = g.St.Store.pairs c.args.store.now in
    let e = c.count.ensures in
    prints_none days ps (near days g.met.St.Source.Source.bounded ps) (g.met.St.Store.ascending c.args.store.now) (omega arith) c.args.window c.requires.window c.args.page.now (omega arith) (omega arith)

pub loop-window-init : goal.loop-window-init
loop-window-init g c =
    let days = g.St.Source.Source.days in
    let ps = g.St.Store.pairs c.args.store.now in
    let e = c.count.ensures in
    let n : c.seat.new.tournament.count ≡ length ps = omega (arith, c.seat.ensures.count, c.requires.places) in
    rw (c.play.ensures.count)
    (writes_none days ps (near days g.met.St.Source.Source.bounded ps) (g.met.St.Store.ascending c.args.store.now) (omega arith) c.args.window c.requires.window c.args.page.now (omega arith)
    c.seat.new.tournament.count c.seat.new.tournament.nodes.now c.play.new.self.nodes.now (omega (arith, n, e)) n (omega (arith, c.play.ensures.long, c.seat.new.tournament.room)) c.play.ensures.played (rw (← c.seat.ensures.count) at c.seat.ensures.stand) c.play.ensures.leaves)

pub put_node-requires : goal.put_node-requires
put_node-requires g c =
    let w = c.loop-window.invariant in
    let is = c.best-top.ensures in
    let h = rw (c.best.ensures, ← is) at c.loop-window-test.true in
    (in_time w is h, shown w is h)

pub returns-in_err-put_node-clause-cases : goal.returns-in_err-put_node-clause-cases
returns-in_err-put_node-clause-cases g c =
    let r = err_from_is_err_and c.from_residual.result c.from_residual.ensures.1 in
    let f = c.in_err-put_node.ensures.cases in
    let w = c.loop-window.invariant in
    let is = c.best-top.ensures in
    let h = rw (c.best.ensures, ← is) at c.loop-window-test.true in
    rw (r.1, r.2) (f.number, none_fits w is h c.put_node.new.page c.in_err-put_node.field-0.0 f)

pub overflow_add-next : goal.overflow_add-next
overflow_add-next g c =
    let w = c.loop-window.invariant in
    let is = c.best-top.ensures in
    let h = rw (c.best.ensures, ← is) at c.loop-window-test.true in
    let d = day_near w is h in omega arith

pub seat-requires-in-loop-window : goal.seat-requires-in-loop-window
seat-requires-in-loop-window g c = seated c.loop-window.invariant c.best-top.ensures

pub replay-requires : goal.replay-requires
replay-requires g c =
    let s = c.seat-in-loop-window.ensures in
    rw (s.count, s.nodes) (replays c.loop-window.invariant c.best-top.ensures c.cursor.result)

pub loop-window-smaller : goal.loop-window-smaller
loop-window-smaller g c =
    let a = c.in_ok-put_node.ensures.cases in
    let w = c.loop-window.invariant in
    omega (arith, a.room, a.len, w.stays.long, line_long (named g.St.Source.Source.days (g.St.Store.pairs c.args.store.now) c.best-top.result))

pub loop-window-preserved : goal.loop-window-preserved
loop-window-preserved g c =
    let a = c.in_ok-put_node.ensures in
    let w = c.loop-window.invariant in
    let is = c.best-top.ensures in
    let h = rw (c.best.ensures, ← is) at c.loop-window-test.true in
    let s = c.seat-in-loop-window.ensures in
    let r = c.replay.ensures in
    rw (r.count, s.count)
    (writes_more w is h c.cursor.result c.replay.new.self.nodes.now c.put_node.new.page
    c.cursor.ensures (rw (s.nodes, s.count) at r.leaves) (rw (s.count) at r.played) (rw (s.nodes) at r.long) a.cases a.stays)

pub returns-clause-cases : goal.returns-clause-cases
returns-clause-cases g c = prints c.loop-window.invariant c.best.ensures c.loop-window-test.false
