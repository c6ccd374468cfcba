-- Intervals as Rn/yyyymmddThhmm00/PmD.
use Rattle.std.specs.Prelude.{ℕ, cond, List, [], ◌∷◌, Ok, Err, Result, ◌==◌}
use Rattle.refusal.specs.declared.Refusal.{Refusal}
use Rattle.refusal.specs.declared.Refusal.TheVariants.{Malformed}
use Rattle.notation.specs.declared.intervals.Spelled.{Spelled}
use Rattle.notation.specs.Dates.{moment_named}
use Rattle.notation.specs.Digits.{number}
use Rattle.notation.specs.Fields.{cut_at, formed, and_then}

-- a letter, then a number
abbrev pub lettered : ℕ → List ℕ → Result ℕ Refusal
lettered letter [] = Err Malformed
lettered letter (x ∷ xs) = cond (x == letter) (number xs) (Err Malformed)

-- any letter, then a number
abbrev pub letter_number : List ℕ → Result (ℕ × ℕ) Refusal
letter_number [] = Err Malformed
letter_number (x ∷ xs) = and_then (number xs) (λ n. Ok (x, n))

-- Rn
abbrev pub repeat_named : List ℕ → Result ℕ Refusal
repeat_named xs = lettered 82 xs

-- the last field ends the text
abbrev pub ended : {X : Type 0} → List ℕ → X → Result X Refusal
ended [] x = Ok x
ended (y ∷ ys) x = Err Malformed

-- PmD
abbrev pub period_named : List ℕ → Result ℕ Refusal
period_named xs = and_then (formed (cut_at 68 xs)) (λ p. and_then (ended p.1 p.0) (lettered 80))

abbrev pub interval_named : List ℕ → Result Spelled Refusal
interval_named xs =
    and_then (formed (cut_at 47 xs)) (λ p.
    and_then (formed (cut_at 47 p.1)) (λ q.
    and_then (repeat_named p.0) (λ n.
    and_then (period_named q.1) (λ m.
    and_then (moment_named q.0) (λ s. Ok (record { count = n; start = s; step = m }))))))
