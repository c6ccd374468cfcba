-- The numbers that digits write.
use Rattle.std.specs.Prelude.{ℕ, ◌+◌, ◌-◌, ◌*◌, min, Bool, true, cond, ◌&&◌, List, [], ◌∷◌, length, Some, None, Option, Result, nat_le}
use Rattle.refusal.specs.declared.Refusal.{Refusal}
use Rattle.notation.specs.Fields.{formed}

abbrev pub is_digit : ℕ → Bool
is_digit x = nat_le 48 x && nat_le x 57

abbrev pub all_digits : List ℕ → Bool
all_digits [] = true
all_digits (x ∷ xs) = is_digit x && all_digits xs

-- the number that digits write behind the number n
abbrev pub value_from : ℕ → List ℕ → ℕ
value_from n [] = n
value_from n (x ∷ xs) = value_from (n * 10 + (x - 48)) xs

-- at least so many and at most so many digits
abbrev pub is_numeral : ℕ → ℕ → List ℕ → Bool
is_numeral least most xs = (nat_le least (length xs) && nat_le (length xs) most) && all_digits xs

-- the number that they write
abbrev pub numeral : ℕ → ℕ → List ℕ → Option ℕ
numeral least most xs = cond (is_numeral least most xs) (Some (value_from 0 xs)) None

-- a number of one to five digits
abbrev pub number : List ℕ → Result ℕ Refusal
number xs = formed (numeral 1 5 xs)

-- one or more digits; a number past the cap is as good as the cap
abbrev pub capped_at : ℕ → List ℕ → Option ℕ
capped_at cap xs = cond (nat_le 1 (length xs) && all_digits xs) (Some (min (value_from 0 xs) cap)) None

abbrev pub capped : List ℕ → Option ℕ
capped xs = capped_at 100000 xs
