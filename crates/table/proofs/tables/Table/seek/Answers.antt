use Rattle.std.proofs.Common.{vec_items, vec_len, arith}
use Rattle.series.specs.Values.{uid_octets}
use Rattle.store.specs.Pairs.{key}
use Rattle.store.specs.Keys.{ordered_keys, rising_in, seats}
use Rattle.table.specs.Climbing.{ascends}
use Rattle.table.proofs.tables.Table.seek.Goals as goal

pub find-requires : goal.find-requires
find-requires g c =
    let t = c.args.self.now in
    rising_in key (vec_items t.rows) c.deref.result.now c.deref.ensures.value (ordered_keys key (vec_items t.rows) (ascends (vec_items t.rows) t.rising))

pub returns : goal.returns
returns g c =
    let t = c.args.self.now in
    seats key uid_octets c.args.uid.now (vec_items t.rows) c.deref.result.now (vec_len t.rows) c.find.result c.deref.ensures.value (omega arith) c.find.ensures
