use Rattle.std.proofs.Common.{◌≡◌, ◌≤◌, min, drop}
use Rattle.notation.specs.Digits.{all_digits, value_from}
use Rattle.notation.proofs.digits.saturated.Given as goal

abbrev pub invariant-loop-x : goal.invariant-loop-x
invariant-loop-x l = (all_digits (drop l.x-index l.octets) ≡ all_digits l.octets)
    × (min (value_from l.value (drop l.x-index l.octets)) 4294967295 ≡ min (value_from 0 l.octets) 4294967295)
    × (l.value ≤ 4294967295)
