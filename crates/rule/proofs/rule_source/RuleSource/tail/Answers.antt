use Rattle.std.proofs.Common.{◌≡◌, refl, ap, sym, ◌∙◌, arith}
use Rattle.source.specs.Days.{since}
use Rattle.rule.specs.Lists.{chooses, days_of}
use Rattle.rule.specs.Cut.{days_in, recount}
use Rattle.rule.specs.Tails.{moved, periods_kept}
use Rattle.rule.specs.Cuts.{tail_none, first_none, at_none, tail_list, since_is, like, first_some, at_some, counted, halves_by}
use Rattle.rule.proofs.Ends.{later, listed_few, count_few, tail_end}
use Rattle.rule.proofs.rule_source.RuleSource.tail.Goals as goal

pub returns-in_default : goal.returns-in_default
returns-in_default c =
    let r = c.args.self.now in
    let days = tail_none r.choice.pattern r.choice.start r.until r.count r.end r.settled c.args.day c.in_default.ensures in
    record {
      days = days;
      parts = record {
        days = days;
        pattern = refl;
        until = refl;
        rest = at_none _ _ _ (first_none r.choice.pattern r.choice.start r.until r.count r.end r.settled c.args.day c.in_default.ensures) (refl, refl);
        periods = λ p e k. refl;
        counted = refl;
        lengths = halves_by c.args.day (days_in c.args.self.now) _ days;
      };
    }

pub invariant_of-result-3 : goal.invariant_of-result-3
invariant_of-result-3 c =
    let r = c.args.self.now in
    let x = c.in-Some.ensures in
    let a = listed_few r.choice.pattern r.choice.start r.until r.count r.end _ r.settled
    (later (chooses r.choice.pattern r.choice.start) r.choice.start c.in-Some.first r.end (omega (arith, x.low)) (omega (arith, x.high))) in
    record {
      range = r.range;
      begins = moved r.choice.pattern r.choice.start c.in-Some.first x.found c.in-Some.first ∙ x.found;
      few = rw c.count_of.ensures (count_few r.count _ r.few a);
      ends = rw c.count_of.ensures (tail_end r.until r.count _ r.ends a);
      settled = rw c.count_of.ensures (tail_list r.choice.pattern r.choice.start r.until r.count r.end r.settled r.range.0 c.args.day c.in-Some.first x);
    }

pub returns : goal.returns
returns c =
    let r = c.args.self.now in
    let x = c.in-Some.ensures in
    let q = since_is r.choice.pattern r.choice.start r.until r.count r.end r.settled c.args.day c.in-Some.first x in
    let days : days_of c.args.self.now.choice.pattern c.in-Some.first c.args.self.now.until c.count_of.result ≡ since c.args.day (days_in c.args.self.now) =
    rw c.count_of.ensures
    (tail_list r.choice.pattern r.choice.start r.until r.count r.end r.settled r.range.0 c.args.day c.in-Some.first x
    ∙ like r.choice.pattern r.choice.start r.until r.count r.end r.settled c.in-Some.first r.end x.found ∙ sym q) in
    let count = c.count_of.ensures ∙ ap (recount r.count) (sym q) in
    record {
      days = days;
      parts = record {
        days = days;
        pattern = refl;
        until = refl;
        rest = at_some _ _ _ c.in-Some.first (first_some r.choice.pattern r.choice.start r.until r.count r.end r.settled c.args.day c.in-Some.first x) (refl, count);
        periods = periods_kept r.choice.pattern r.choice.start c.in-Some.first x.found;
        counted = counted r.count c.count_of.result _ _ count (sym days);
        lengths = halves_by c.args.day (days_in c.args.self.now) _ days;
      };
    }
