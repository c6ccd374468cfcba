use Rattle.std.proofs.Common.{◌≡◌, ◌+◌, ◌-◌, ◌*◌, min, true, ◌&&◌, get_or, drop, Some, sym, ap, ◌∙◌, arith}
use Rattle.std.proofs.lemmas.List.{at_drop_all}
use Rattle.notation.specs.Digits.{is_digit, all_digits, value_from}
use Rattle.notation.proofs.Values.{digits_step, value_step, value_capped}
use Rattle.notation.proofs.digits.saturated.Goals as goal

pub loop-x-preserved : goal.loop-x-preserved
loop-x-preserved c =
    let xs = c.args.octets.now in
    let i = c.loop-x.x-index in
    let d : is_digit (get_or xs i 0) ≡ true = sym c.is_ascii_digit.ensures.value ∙ c.if-not-is_ascii_digit.false in
    let n = c.loop-x.value * 10 + (get_or xs i 0 - 48) in
    let m : c.saturating_add-value.result ≡ min n 4294967295 = omega (arith, c.saturating_mul.ensures, c.saturating_add-value.ensures) in (
      sym (digits_step xs i (omega arith) ∙ ap (λ b. b && all_digits (drop (i + 1) xs)) d) ∙ c.loop-x.invariant.0,
      ap (λ k. min (value_from k (drop (i + 1) xs)) 4294967295) m ∙ value_capped n 4294967295 (drop (i + 1) xs)
          ∙ ap (λ k. min k 4294967295) (sym (value_step xs i (omega arith) c.loop-x.value)) ∙ c.loop-x.invariant.1,
      omega (arith, m),
    )

pub returns : goal.returns
returns c =
    let xs = c.args.octets.now in
    let i = c.loop-x.x-index in
    let e : all_digits xs ≡ true = sym c.loop-x.invariant.0 ∙ at_drop_all all_digits xs i (omega arith) in
    let v : min c.loop-x.value 4294967295 ≡ min (value_from 0 xs) 4294967295 = ap (λ k. min k 4294967295) (sym (at_drop_all (value_from c.loop-x.value) xs i (omega arith))) ∙ c.loop-x.invariant.1 in
    let w : c.loop-x.value ≡ min (value_from 0 xs) 4294967295 = omega (arith, v, c.loop-x.invariant.2) in
    rw e (ap (λ n. Some n) w)
