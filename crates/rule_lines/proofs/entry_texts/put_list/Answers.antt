use Rattle.std.proofs.Common.{◌+◌, ◌≤◌, ◌++◌, length, take, sym, refl, ap, subst, arith}
use Rattle.std.proofs.lemmas.List.{length-append}
use Rattle.std.proofs.lemmas.Result.{err_from_is_err_and}
use Rattle.std.proofs.lemmas.Bool.{ne_eqb}
use Rattle.page.specs.Pages.{Puts}
use Rattle.page.proofs.Writing.{stays_then, puts_then, breaks_then, breaks_full}
use Rattle.rule_lines.specs.Writing.{list_text}
use Rattle.rule_lines.proofs.Listing.{mark_at, list_more, list_within}
use Rattle.rule_lines.proofs.entry_texts.put_list.Goals as goal

pub returns-in_err-put-clause-cases : goal.returns-in_err-put-clause-cases
returns-in_err-put-clause-cases g c =
    let text = g.T.Written.text in
    let name = c.args.name.now in
    let xs = c.args.list.now in
    let i = c.loop-entry.entry-index in
    let x = c.entry-item.result in
    let v = c.loop-entry.invariant in
    let a = list_text name text (take i xs) in
    let h = list_within name text xs i x (omega arith) c.entry-item.is in
    let l : length a + length c.loop-entry.mark.now ≤ length (list_text name text xs) = omega (arith, h, length-append (mark_at name i) (text x), ap length v.mark) in
    let p = err_from_is_err_and c.from_residual.result c.from_residual.ensures.1 in
    rw (p.1, p.2) (breaks_then a c.loop-entry.mark.now (list_text name text xs) v.stays v.puts l (breaks_full c.in_err-put.ensures.cases))

pub returns-in_err-put_on-clause-cases : goal.returns-in_err-put_on-clause-cases
returns-in_err-put_on-clause-cases g c =
    let text = g.T.Written.text in
    let name = c.args.name.now in
    let xs = c.args.list.now in
    let i = c.loop-entry.entry-index in
    let x = c.entry-item.result in
    let v = c.loop-entry.invariant in
    let a = list_text name text (take i xs) in
    let b = c.loop-entry.mark.now in
    let s = c.in_ok-put.ensures in
    let h = list_within name text xs i x (omega arith) c.entry-item.is in
    let l : length (a ++ b) + length (text x) ≤ length (list_text name text xs) = omega (arith, h, length-append a b, length-append (mark_at name i) (text x), ap length v.mark) in
    let p = err_from_is_err_and c.from_residual-in_err-put_on.result c.from_residual-in_err-put_on.ensures.1 in
    rw (p.1, p.2) (breaks_then (a ++ b) (text x) (list_text name text xs) (stays_then a v.stays v.puts s.stays) (puts_then a v.stays v.puts c.put.new.self b s.cases) l c.in_err-put_on.ensures.cases)

pub loop-entry-preserved : goal.loop-entry-preserved
loop-entry-preserved g c =
    let text = g.T.Written.text in
    let name = c.args.name.now in
    let xs = c.args.list.now in
    let i = c.loop-entry.entry-index in
    let x = c.entry-item.result in
    let v = c.loop-entry.invariant in
    let a = list_text name text (take i xs) in
    let s = c.in_ok-put.ensures in
    let w = c.in_ok-put_on.ensures in
    let m : Puts (mark_at name i) c.loop-entry.page c.put.new.self = subst (λ z. Puts z c.loop-entry.page c.put.new.self) v.mark s.cases in
    let t = puts_then (mark_at name i) s.stays m c.put_on.new.page (text x) w.cases in
    let k = stays_then (mark_at name i) s.stays m w.stays in
    record {
      puts =
          subst (λ z. Puts z c.args.page.now c.put_on.new.page) (sym (list_more name text xs i x (omega arith) c.entry-item.is))
          (puts_then a v.stays v.puts c.put_on.new.page (mark_at name i ++ text x) t);
      stays = stays_then a v.stays v.puts k;
      mark = rw (ne_eqb (i + 1) 0 (λ e. omega arith)) refl;
    }
