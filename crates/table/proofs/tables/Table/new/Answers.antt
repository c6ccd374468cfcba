use Rattle.std.proofs.Common.{ap, ◌∙◌, arith}
use Rattle.table.specs.Rows.{climbs}
use Rattle.table.specs.Climbing.{climb}
use Rattle.table.proofs.tables.Table.new.Goals as goal

pub invariant_of-result : goal.invariant_of-result
invariant_of-result g c =
    let made = c.in_ok-room.ensures in
    record { few = omega (arith, made.len); reserved = omega (arith, made.capacity); rising = ap climbs made.items ∙ climb _ tt }
