-- What the bounds of a pattern give.
use Rattle.std.proofs.Common.{◌≡◌, true, leb}
use Rattle.std.proofs.lemmas.Bool.{and_parts, leb-true}
use Rattle.recurrence.specs.declared.parts.Pattern.{Pattern}
use Rattle.recurrence.specs.Bounds.{within, few_fit, month_fits, month_day_fits, pattern_fits}
use Rattle.pattern.specs.Asked.{Usable}

pub fits_usable : (p : Pattern) → pattern_fits p ≡ true → Usable p
fits_usable p t =
    let a = and_parts (within 1 999 p.interval) _ t in
    let i = and_parts (leb 1 p.interval) _ a.0 in
    let b = and_parts (few_fit month_fits p.months) _ a.1 in
    let c = and_parts (few_fit month_day_fits p.month_days) _ b.1 in
    let m = and_parts (leb p.months.len 12) _ b.0 in
    let n = and_parts (leb p.month_days.len 12) _ c.0 in
    let w = and_parts (leb p.week_days.len 12) _ c.1 in
    record {
      some = leb-true 1 p.interval i.0;
      few = leb-true p.interval 999 i.1;
      months = leb-true p.months.len 12 m.0;
      month_days = leb-true p.month_days.len 12 n.0;
      week_days = leb-true p.week_days.len 12 w.0;
    }
