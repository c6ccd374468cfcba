use Rattle.std.proofs.Common.{◌≡◌, ◌+◌, List, [], ◌∷◌, ◌++◌, Some, MatchOption, take, rules, sym, refl, ap, ◌∙◌, subst}
use Rattle.std.proofs.lemmas.List.{take_more, take_all}
use Rattle.series.specs.declared.changes.Override.{Override}
use Rattle.series.specs.Plans.{plan_of, overrides_of}
use Rattle.upcoming.specs.Kinds.{Plain}
use Rattle.upcoming.specs.Least.{Next}
use Rattle.upcoming.specs.Shown.{Shows}
use Rattle.upcoming.proofs.Joins.{alike}
use Rattle.upcoming.proofs.Moving.{shown, kinds}
use Rattle.upcoming.proofs.Turns.{Seen, turned}
use Rattle.upcoming.proofs.next.next_in.Goals.{in-Some, in_default}
use Rattle.upcoming.proofs.next.next_in.Goals as goal

pub loop-item-preserved : goal.loop-item-preserved
loop-item-preserved g c =
    let s = c.args.series.now in
    let Q = Plain (plan_of g.S.Source.days s) in
    let days = g.S.Source.days s.repeats.source in
    let items = c.as_slice-item-items.result.now in
    let i = c.loop-item.item-index in
    let o = c.item-item.result in
    let from = c.args.from.start in
    let day = c.args.from.day in
    let end = c.args.end in
    let best = c.loop-item.best in
    let longer : take (i + 1) items ≡ take i items ++ o ∷ [] = take_more items i o c.loop-item-test.true ∙ ap (λ (x : Override). take i items ++ x ∷ []) (sym c.item-item.is) in
    let seen = Seen Q days (take i items ++ o ∷ []) in
    let turn : MatchOption c.filter.result (Next seen from day end best) (λ k. Next seen from day end (Some k)) =
    turned from day end Q days (take i items) o best c.loop-item.invariant _ (λ k b t. search rules) c.better_of-moved.result c.filter.result c.better_of-moved.ensures c.filter.ensures in
    let next : Next seen from day end c.match-filter.best =
    elim c.match-filter.branch [
      | in-Some w ↦ subst (Next seen from day end) (sym w.best-is) (rw w.in-Some.is at turn)
      | in_default w ↦ subst (Next seen from day end) (sym w.best-is) (rw w.in_default.is at turn)
    ] in
    subst (λ (os : List Override). Next (Seen Q days os) from day end c.match-filter.best) (sym longer) next

pub returns : goal.returns
returns g c =
    let s = c.args.series.now in
    let p = plan_of g.S.Source.days s in
    let items = c.as_slice-item-items.result.now in
    let e : items ≡ overrides_of s.overrides = c.as_slice-item-items.ensures in
    let whole : take c.loop-item.item-index items ≡ overrides_of s.overrides = take_all c.loop-item.item-index items c.loop-item-test.false ∙ e in
    alike c.args.from.start c.args.from.day c.args.end (Seen (Plain p) p.days (overrides_of s.overrides)) (Shows p)
    (shown p (overrides_of s.overrides) s.overrides.items.sound (λ d. refl))
    (kinds p (overrides_of s.overrides) s.overrides.items.sound (λ d. refl))
    c.loop-item.best
    (subst (λ (os : List Override). Next (Seen (Plain p) p.days os) c.args.from.start c.args.from.day c.args.end c.loop-item.best) whole c.loop-item.invariant)
