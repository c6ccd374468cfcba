use Rattle.std.proofs.Common.{◌≡◌, rules}
use Rattle.std.proofs.lemmas.Iterator.{first_from_find}
use Rattle.std.proofs.lemmas.Iterator.Consumers.{YieldsList-from_first}
use Rattle.source.specs.Days.{since}
use Rattle.source.specs.Walks.{days_left}
use Rattle.series.specs.Marks.{plain}
use Rattle.series.specs.Plans.{plan_of}
use borrow.Author.Tests.{tests}
use Rattle.upcoming.proofs.Moving.{unmarked, marked}
use Rattle.upcoming.proofs.Walks.{left_all, left_case}
use Rattle.upcoming.proofs.plains.first_plain.Goals as goal

pub returns : goal.returns
returns g c =
    let s = c.args.series.now in
    let p = plan_of g.S.Source.days s in
    let d = c.args.day in
    let xs = since d p.days in
    left_case p d xs c.find.result (left_all p d (g.met.S.Source.ascending s.repeats.source))
    (first_from_find c.find.new.self _ c.find.result (λ y. p.marks y ≡ plain) (λ y. p.marks y ≡ plain → ⊥) c.find.ensures.ran
    (YieldsList-from_first (λ x. x) (days_left g.S.Source.days) {s = c.days_from.result} xs c.days_from.ensures.left)
    (λ x q k. search (rules, tests, unmarked)) (λ x q k. search (rules, tests, marked)))
