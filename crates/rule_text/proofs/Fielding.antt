-- Fields one by one: what a cut at the first mark leaves.
use Rattle.std.proofs.Common.{◌≡◌, ℕ, ◌+◌, ◌≤◌, List, [], ◌∷◌, length, Some, None, Option, refl, ap, ◌∙◌, ⊎_elim, arith}
use Rattle.std.specs.Option.{option_map}
use Rattle.std.proofs.lemmas.Bool.Decides.{eqb_tells}
use Rattle.notation.specs.Fields.{cut_at}
use Rattle.rule_text.specs.Lists.{fields_at, extended}

-- by what a cut answers, the fields are one, or the first and those of the rest
abbrev fielded : ℕ → List ℕ → Option (List ℕ × List ℕ) → List (List ℕ)
fielded x xs None = xs ∷ []
fielded x xs (Some p) = p.0 ∷ fields_at x p.1

later : (x y : ℕ) (ys : List ℕ) (o : Option (List ℕ × List ℕ)) → extended y (fielded x ys o) ≡ fielded x (y ∷ ys) (option_map {U = List ℕ × List ℕ} (λ p. (y ∷ p.0, p.1)) o)
later x y ys None = refl
later x y ys (Some p) = refl

fields_cut : (x : ℕ) (xs : List ℕ) → fields_at x xs ≡ fielded x xs (cut_at x xs)
fields_cut x [] = refl
fields_cut x (y ∷ ys) =
    ⊎_elim
    (λ t. rw t.0 refl)
    (λ f. rw f.0 (ap (extended y) (fields_cut x ys) ∙ later x y ys (cut_at x ys)))
    (eqb_tells y x)

pub one_field : (x : ℕ) (xs : List ℕ) → cut_at x xs ≡ None → fields_at x xs ≡ xs ∷ []
one_field x xs e = fields_cut x xs ∙ ap (fielded x xs) e

pub more_fields : (x : ℕ) (xs a b : List ℕ) → cut_at x xs ≡ Some (a, b) → fields_at x xs ≡ a ∷ fields_at x b
more_fields x xs a b e = fields_cut x xs ∙ ap (fielded x xs) e

longer : (y : ℕ) (fs : List (List ℕ)) → length (extended y fs) ≤ length fs + 1
longer y [] = omega arith
longer y (f ∷ fs) = omega arith

-- one field more than marks at the most
pub fields_within : (x : ℕ) (xs : List ℕ) → length (fields_at x xs) ≤ length xs + 1
fields_within x [] = omega arith
fields_within x (y ∷ ys) =
    ⊎_elim
    (λ t. rw t.0 (omega (arith, fields_within x ys)))
    (λ f. rw f.0 (omega (arith, fields_within x ys, longer y (fields_at x ys))))
    (eqb_tells y x)
