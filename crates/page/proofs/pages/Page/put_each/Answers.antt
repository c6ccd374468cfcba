use Rattle.std.proofs.Common.{ℕ, List, [], get_or, take, Bor, arith}
use Rattle.std.proofs.lemmas.Result.{err_from_is_err_and}
use Rattle.std.specs.List.{flat_map}
use Rattle.std.proofs.lemmas.List.Folds.{length-flat_map-take}
use Rattle.page.proofs.Writing.{breaks_then, breaks_full}
use Rattle.page.proofs.pages.Page.put_each.Goals as goal

pub returns-in_err-put-2-clause-cases : goal.returns-in_err-put-2-clause-cases
returns-in_err-put-2-clause-cases c =
    let xs = c.args.pieces.now in
    let i = c.loop-piece.piece-index in
    let v = c.loop-piece.invariant in
    let d : Bor (List ℕ) = record { ref_ptr = (0, 0); now = [] } in
    let front = flat_map (λ x. x.now) (take i xs) in
    let p = err_from_is_err_and c.from_residual-in_err-put-2.result c.from_residual-in_err-put-2.ensures.1 in
    let w = flat_map (λ x. x.now) xs in
    rw (p.1, p.2) (breaks_then [] w w c.put.ensures.stays c.in_ok-put.ensures.cases (omega arith)
    (breaks_then front (get_or xs i d).now w v.stays v.puts (length-flat_map-take (λ x. x.now) xs i d (omega arith)) (breaks_full c.in_err-put-2.ensures.cases)))
