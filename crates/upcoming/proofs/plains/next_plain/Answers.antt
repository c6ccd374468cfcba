use Rattle.std.proofs.Common.{◌+◌, ◌*◌, ◌≤◌, Option, refl, sym, subst, arith}
use Rattle.series.specs.Plans.{plan_of}
use Rattle.upcoming.specs.declared.keys.Key.{Key}
use Rattle.upcoming.specs.Kinds.{Plain}
use Rattle.upcoming.specs.Least.{Next}
use Rattle.upcoming.proofs.Finds.{all_mem}
use Rattle.upcoming.proofs.Windows.{none_plain, window_plain}
use Rattle.upcoming.proofs.plains.next_plain.Goals as goal

pub returns-in_err-day : goal.returns-in_err-day
returns-in_err-day g c =
    let s = c.args.series.now in
    subst (λ (r : Option Key). Next (Plain (plan_of g.S.Source.days s)) c.args.from.start c.args.from.day c.args.end r) (sym c.from_residual.ensures)
    (none_plain (plan_of g.S.Source.days s) (g.met.S.Source.bounded s.repeats.source) c.minutes-clock.result c.args.from.start c.args.from.day c.first_day.result c.minutes-clock.ensures.value c.first_day.ensures.before c.args.end c.in_err-day.ensures)

pub overflow_mul-start : goal.overflow_mul-start
overflow_mul-start g c =
    let l : c.in_ok-day.day ≤ 109572 = all_mem (λ d. d ≤ 109572) _ (g.met.S.Source.bounded c.args.series.now.repeats.source) c.in_ok-day.day c.in_ok-day.ensures.among in
    omega arith

pub overflow_add-start : goal.overflow_add-start
overflow_add-start g c =
    let l : c.in_ok-day.day ≤ 109572 = all_mem (λ d. d ≤ 109572) _ (g.met.S.Source.bounded c.args.series.now.repeats.source) c.in_ok-day.day c.in_ok-day.ensures.among in
    let b = c.minutes-clock.ensures.bound in
    omega arith

pub returns : goal.returns
returns g c =
    let s = c.args.series.now in
    let f = c.in_ok-day.ensures in
    let e = c.in_ok-day.day in
    rw c.then_some.ensures (window_plain (plan_of g.S.Source.days s) (g.met.S.Source.bounded s.repeats.source) c.minutes-clock.result c.args.from.start c.args.from.day c.first_day.result c.minutes-clock.ensures.value c.first_day.ensures.before c.args.end e (e * 1440 + c.minutes-clock.result) f (c.first_day.ensures.from e f.from) refl)
