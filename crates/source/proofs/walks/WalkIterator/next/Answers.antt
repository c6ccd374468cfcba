use Rattle.std.proofs.Common.{◌≡◌, Some, rules, arith}
use Rattle.source.specs.Days.{first_from}
use Rattle.source.specs.Ascents.{since_first, first_has}
use Rattle.source.proofs.walks.WalkIterator.next.Goals as goal

pub overflow_add-self : goal.overflow_add-self
overflow_add-self g c =
    let days = g.S.Source.days c.args.self.now.source.now in
    let e : first_from c.args.self.now.next days ≡ Some c.in_ok-day.day = search rules in
    let b = first_has _ c.args.self.now.next c.in_ok-day.day days (g.met.S.Source.bounded c.args.self.now.source.now) e in
    grind (arith, b)

pub returns-clause-steps : goal.returns-clause-steps
returns-clause-steps g c =
    let days = g.S.Source.days c.args.self.now.source.now in
    let e : first_from c.args.self.now.next days ≡ Some c.in_ok-day.day = search rules in
    since_first c.args.self.now.next c.in_ok-day.day days (g.met.S.Source.ascending c.args.self.now.source.now) e

pub returns-clause-goes : goal.returns-clause-goes
returns-clause-goes g c =
    let days = g.S.Source.days c.args.self.now.source.now in
    let e : first_from c.args.self.now.next days ≡ Some c.in_ok-day.day = search rules in
    let f = since_first c.args.self.now.next c.in_ok-day.day days (g.met.S.Source.ascending c.args.self.now.source.now) e in
    search (rules, f)
