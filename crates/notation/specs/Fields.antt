-- Fields of a text, and answers one after another.
use Rattle.std.specs.Prelude.{ℕ, cond, List, [], ◌∷◌, Some, None, Ok, Err, Option, Result, ◌==◌}
use Rattle.std.specs.Option.{option_map}
use Rattle.refusal.specs.declared.Refusal.{Refusal}
use Rattle.refusal.specs.declared.Refusal.TheVariants.{Malformed, OutOfBounds}

-- what stands before and behind the first x
abbrev pub cut_at : ℕ → List ℕ → Option (List ℕ × List ℕ)
cut_at x [] = None
cut_at x (y ∷ ys) = cond (y == x) (Some ([], ys)) (option_map (λ p. (y ∷ p.0, p.1)) (cut_at x ys))

-- a form that is absent
abbrev pub formed : {X : Type 0} → Option X → Result X Refusal
formed None = Err Malformed
formed (Some x) = Ok x

-- a value that is absent
abbrev pub in_range : {X : Type 0} → Option X → Result X Refusal
in_range None = Err OutOfBounds
in_range (Some x) = Ok x

-- the first refusal decides
abbrev pub and_then : {X Y : Type 0} → Result X Refusal → (X → Result Y Refusal) → Result Y Refusal
and_then (Ok x) f = f x
and_then (Err e) f = Err e
