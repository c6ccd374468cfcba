use Rattle.std.proofs.Common.{◌-◌, length}
use Rattle.merge.proofs.Written.{Writing}
use Rattle.merge.proofs.agendas.put_lines.Given as goal

abbrev pub invariant-loop-window : goal.invariant-loop-window
invariant-loop-window g l = Writing g.St.Source.Source.days (g.St.Store.pairs l.store) l.window l.tournament.count l.tournament.nodes.now l.lines l.initial.page l.page

abbrev pub decreases-loop-window : goal.decreases-loop-window
decreases-loop-window g l = length l.initial.page.octets.now - l.page.len
