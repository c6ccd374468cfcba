use Rattle.std.proofs.Common.{◌≡◌, sym, refl, ap, ◌∙◌, arith}
use Rattle.source.specs.Days.{before}
use Rattle.rule.specs.Spans.{span}
use Rattle.rule.specs.Lists.{chooses, days_of}
use Rattle.rule.specs.Cut.{days_in, recount}
use Rattle.rule.specs.Cuts.{head_list, stop_before, before_is, counted}
use Rattle.rule.proofs.Bounds.{stop_low}
use Rattle.rule.proofs.Ends.{shorter, listed_few, count_few, head_end}
use Rattle.rule.proofs.rule_source.RuleSource.head.Goals as goal

pub invariant_of-result : goal.invariant_of-result
invariant_of-result c =
    let r = c.args.self.now in
    let a = listed_few r.choice.pattern r.choice.start r.until r.count r.end _ r.settled
    (shorter (chooses r.choice.pattern r.choice.start) r.choice.start c.min-end.result r.end (omega (arith, c.min-end.ensures))) in
    record {
      range = (rw c.until_before.ensures (omega (arith, stop_before r.count r.until c.args.day, r.range.0, c.min-end.ensures)), stop_low c.until_before.result);
      begins = r.begins;
      few = rw c.count_of.ensures (count_few r.count _ r.few a);
      ends = rw (c.until_before.ensures, c.count_of.ensures) (head_end r.until r.count c.args.day _ r.ends a);
      settled = rw (c.until_before.ensures, c.count_of.ensures)
          (head_list r.choice.pattern r.choice.start r.until r.count r.end r.settled r.range.0 c.args.day c.min-end.result c.min-end.ensures);
    }

pub returns : goal.returns
returns c =
    let r = c.args.self.now in
    let b : span (chooses c.args.self.now.choice.pattern c.args.self.now.choice.start) c.args.self.now.choice.start c.min-end.result ≡ before c.args.day (days_in c.args.self.now) =
    ap (span (chooses c.args.self.now.choice.pattern c.args.self.now.choice.start) c.args.self.now.choice.start) c.min-end.ensures
    ∙ sym (before_is r.choice.pattern r.choice.start r.until r.count r.end r.settled c.args.day) in
    let days : days_of c.args.self.now.choice.pattern c.args.self.now.choice.start c.until_before.result c.count_of.result ≡ before c.args.day (days_in c.args.self.now) =
    rw (c.until_before.ensures, c.count_of.ensures)
    (head_list r.choice.pattern r.choice.start r.until r.count r.end r.settled r.range.0 c.args.day c.min-end.result c.min-end.ensures ∙ b) in
    let count = c.count_of.ensures ∙ ap (recount r.count) b in
    record {
      days = days;
      parts = record {
        days = days;
        pattern = refl;
        start = refl;
        until = c.until_before.ensures;
        count = count;
        periods = λ p e k. refl;
        counted = counted r.count c.count_of.result _ _ count (sym days);
      };
    }
