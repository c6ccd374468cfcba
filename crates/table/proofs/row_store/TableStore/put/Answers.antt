use Rattle.std.proofs.Common.{◌≡◌, ◌+◌, true, is_ok, vec_items, vec_len, refl, ap, ◌∙◌, arith}
use Rattle.std.proofs.lemmas.Bool.{cond-true}
use Rattle.store.specs.Pairs.{key}
use Rattle.store.proofs.Holdings.{ascends_placed}
use Rattle.store.proofs.Spots.{set_placed, inserted_placed, held_gap}
use Rattle.table.specs.Rows.{climbs}
use Rattle.table.specs.Climbing.{ascends, climb}
use Rattle.table.proofs.row_store.TableStore.put.Goals as goal

pub invariant_of-self : goal.invariant_of-self
invariant_of-self g c =
    let t = c.args.self.now in
    let ps = vec_items t.rows in
    let q = c.args.pair in
    let up = ascends ps t.rising in
    record { few = t.few; reserved = t.reserved; rising = ap climbs (set_placed q ps c.in-Ok.place up c.in-Ok.ensures.1) ∙ climb _ (ascends_placed q ps up) }

pub returns-in-Ok-clause-cases : goal.returns-in-Ok-clause-cases
returns-in-Ok-clause-cases g c =
    let t = c.args.self.now in
    let ps = vec_items t.rows in
    set_placed c.args.pair ps c.in-Ok.place (ascends ps t.rising) c.in-Ok.ensures.1

pub returns-then-len-self-clause-cases : goal.returns-then-len-self-clause-cases
returns-then-len-self-clause-cases g c =
    let t = c.args.self.now in
    let ps = vec_items t.rows in
    record { number = refl; new_uid = held_gap (key c.args.pair) ps c.in-Err.place c.in-Err.ensures.1; no_room = omega arith; unchanged = refl }

pub invariant_of-self-in-Err : goal.invariant_of-self-in-Err
invariant_of-self-in-Err g c =
    let t = c.args.self.now in
    let ps = vec_items t.rows in
    let q = c.args.pair in
    let ok : is_ok c.insert.result ≡ true = c.insert.ensures.succeeds (omega arith) in
    let n : vec_len c.insert.new.self ≡ vec_len t.rows + 1 = c.insert.ensures.len ∙ cond-true (is_ok c.insert.result) _ _ ok in
    record { few = omega arith; reserved = omega (arith, c.insert.ensures.capacity); rising = ap climbs (c.insert.ensures.items ∙ cond-true (is_ok c.insert.result) _ _ ok ∙ inserted_placed q ps c.in-Err.place c.in-Err.ensures.1) ∙ climb _ (ascends_placed q ps (ascends ps t.rising)) }

pub returns-else-len-self-clause-cases : goal.returns-else-len-self-clause-cases
returns-else-len-self-clause-cases g c =
    let ok : is_ok c.insert.result ≡ true = c.insert.ensures.succeeds (omega arith) in
    c.insert.ensures.items ∙ cond-true (is_ok c.insert.result) _ _ ok ∙ inserted_placed c.args.pair (vec_items c.args.self.now.rows) c.in-Err.place c.in-Err.ensures.1
