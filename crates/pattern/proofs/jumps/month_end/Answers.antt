use Rattle.std.proofs.Common.{◌≡◌, ℕ, ◌+◌, ◌*◌, ap, ◌∙◌, subst, rules, arith}
use Rattle.std.specs.Option.{option_map, option_map_or}
use Rattle.calendar.specs.Years.{year_of}
use Rattle.calendar.specs.Dates.{month_of}
use Rattle.recurrence.specs.declared.parts.Frequency.TheVariants.{Monthly}
use Rattle.pattern.specs.declared.day.Day.{Day}
use Rattle.pattern.specs.Openings.{OpensIf}
use Rattle.pattern.proofs.Ahead.{month_kept}
use Rattle.pattern.proofs.jumps.month_end.Goals as goal

pub returns : goal.returns
returns c =
    let t = c.new.result.date in
    let i = c.new.result.dated in
    let n : c.new.result.day.number ≡ c.args.day.number = ap (λ (d : Day). d.number) c.new.ensures in
    let e : 12 * t.year + t.month + 1 ≡ 12 * year_of c.args.day.number + month_of c.args.day.number + 1 = omega (arith, i.year_is ∙ ap year_of n, i.month_is ∙ ap month_of n) in
    let o = c.month_opening.result in
    let r : c.map_or.result ≡ option_map_or (λ (d : Day). d.number) o 109573 = search rules in
    let m = month_kept c.args.day.number c.map_or.result o c.args.day.known (subst (λ (q : ℕ). OpensIf Monthly 0 q (option_map (λ d. d.number) o)) e (c.month_opening.ensures 0)) r in
    record { range = (m.0, m.1); same = m.2 }
