-- The year of a day: the guess or the year before it.
use Rattle.std.proofs.Common.{◌≡◌, ◌+◌, ◌-◌, ◌/◌, sym, ◌∙◌, arith}
use Rattle.calendar.specs.Years.{year_of}
use Rattle.calendar.proofs.YearDays.{InYear, in_year, year_then, year_else}
use Rattle.calendar.proofs.years.year_of.Goals as goal

pub returns-then-day-year_start : goal.returns-then-day-year_start
returns-then-day-year_start c =
    let f : 1899 + c.args.day / 365 ≡ 1900 + c.args.day / 365 - 1 = omega arith in
    let e : year_of c.args.day ≡ 1900 + c.args.day / 365 - 1 = year_then c.args.day (omega (arith, c.if-day-year_start.true, c.year_start.ensures.value)) ∙ f in
    let i : InYear c.args.day (1900 + c.args.day / 365 - 1) = rw e at (in_year c.args.day c.requires) in
    record { value = sym e; range = (i.low, i.high); within = (i.begins, i.ends) }

pub returns-else-day-year_start : goal.returns-else-day-year_start
returns-else-day-year_start c =
    let e : year_of c.args.day ≡ 1900 + c.args.day / 365 = year_else c.args.day (omega (arith, c.if-day-year_start.false, c.year_start.ensures.value)) in
    let i : InYear c.args.day (1900 + c.args.day / 365) = rw e at (in_year c.args.day c.requires) in
    record { value = sym e; range = (i.low, i.high); within = (i.begins, i.ends) }
