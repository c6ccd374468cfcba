-- Of a span of days those that pass a test, in their order.
use Rattle.std.specs.Prelude.{ℕ, zero, suc, ◌-◌, min, Bool, cond, List, [], ◌∷◌, take, Some, None, Option}

-- of the n days from a on those that pass (the rest is named first, so that it is not computed before it is asked for)
abbrev pub chosen : (ℕ → Bool) → ℕ → ℕ → List ℕ
chosen f a zero = []
chosen f a (suc n) = let more = chosen f (suc a) n in cond (f a) (a ∷ more) more

-- of the days from a on, before b, those that pass
abbrev pub span : (ℕ → Bool) → ℕ → ℕ → List ℕ
span f a b = chosen f a (b - a)

-- the first of them by COUNT, if it is given
abbrev pub limited : Option ℕ → List ℕ → List ℕ
limited None xs = xs
limited (Some k) xs = take k xs

-- the day after the last: that of the calendar's last where none is given
abbrev pub stop : Option ℕ → ℕ
stop None = 109573
stop (Some day) = min day 109573
