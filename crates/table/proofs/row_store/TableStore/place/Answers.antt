use Rattle.std.proofs.Common.{vec_items, vec_len, ◌∙◌}
use Rattle.series.specs.Values.{uid_octets}
use Rattle.store.proofs.Spots.{place_found}
use Rattle.table.specs.Climbing.{ascends}
use Rattle.table.proofs.row_store.TableStore.place.Goals as goal

pub returns : goal.returns
returns g c =
    let t = c.args.self.now in
    let ps = vec_items t.rows in
    c.ok.ensures.value ∙ place_found (uid_octets c.args.uid.now) ps (vec_len t.rows) c.seek.result (ascends ps t.rising) c.seek.ensures
