use Rattle.std.proofs.Common.{◌*◌, ◌≤◌, length, vec_len, arith}
use Rattle.diary.specs.States.{state_of}
use Rattle.diary.proofs.Agendas.{printed_explained}
use Rattle.diary.proofs.Planned.{plans_ascend}
use Rattle.diary.proofs.diaries.Diary.agenda.Goals as goal

pub returns-clause-lines : goal.returns-clause-lines
returns-clause-lines g c = λ h log ex room.
    let days = g.St.Source.Source.days in
    let store = c.args.self.now.store in
    let pairs = g.St.Store.pairs store in
    let few : length pairs ≤ g.St.Store.limit store = g.met.St.Store.bounded store in
    let roomy : 2 * g.St.Store.limit store ≤ vec_len c.args.self.now.nodes = room in
    printed_explained h (state_of days pairs log c.args.self.now.drafts.slots) ex (plans_ascend days pairs (g.met.St.Store.ascending store)) c.args.window c.args.page.now c.agenda.new.page c.agenda.result
    (c.agenda.ensures.cases (omega (arith, c.as_mut_slice.ensures.len)))
