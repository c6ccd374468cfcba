use Rattle.std.proofs.Common.{vec_items, sym, ap, ◌∙◌, arith}
use Rattle.series.specs.Values.{uid_octets}
use Rattle.store.proofs.Holdings.{ascends_without, without_absent}
use Rattle.store.proofs.Spots.{removed_without, held_gap}
use Rattle.table.specs.Rows.{climbs}
use Rattle.table.specs.Climbing.{ascends, climb}
use Rattle.table.proofs.row_store.TableStore.remove.Goals as goal

pub invariant_of-self : goal.invariant_of-self
invariant_of-self g c =
    let t = c.args.self.now in
    let ps = vec_items t.rows in
    let u = uid_octets c.args.uid.now in
    let up = ascends ps t.rising in
    record { few = omega arith; reserved = omega arith; rising = ap climbs (c.remove.ensures.items ∙ removed_without u ps c.in-Ok.place up c.in-Ok.ensures.1) ∙ climb _ (ascends_without u ps up) }

pub returns-in-Ok-clause-pairs : goal.returns-in-Ok-clause-pairs
returns-in-Ok-clause-pairs g c =
    let t = c.args.self.now in
    let ps = vec_items t.rows in
    c.remove.ensures.items ∙ removed_without (uid_octets c.args.uid.now) ps c.in-Ok.place (ascends ps t.rising) c.in-Ok.ensures.1

pub returns-in_default-clause-pairs : goal.returns-in_default-clause-pairs
returns-in_default-clause-pairs g c =
    let ps = vec_items c.args.self.now.rows in
    let u = uid_octets c.args.uid.now in
    sym (without_absent u ps (held_gap u ps c.in_default.field-0 c.in_default.ensures.1))
