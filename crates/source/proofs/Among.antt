-- Whether a day is in an ascending list, by the first day from it on.
use Rattle.std.proofs.Common.{◌≡◌, ℕ, ◌<◌, false, ◌||◌, eqb, nat_eq, List, [], ◌∷◌, Some, refl, ⊎_elim, arith}
use Rattle.std.specs.List.{AllByRecursion}
use Rattle.std.specs.Option.{option_eq}
use Rattle.std.proofs.ByRecursion.{All-weaker}
use Rattle.std.proofs.lemmas.Bool.Decides.{leb_tells, nat_tests}
use Rattle.source.specs.Days.{Ascending, first_from, among}

none_past : (d : ℕ) (xs : List ℕ) → AllByRecursion (λ x. d < x) xs → among d xs ≡ false
none_past d [] a = refl
none_past d (x ∷ xs) a = let l = a.0 in let f : eqb d x ≡ false = grind (arith, nat_tests) in rw f (none_past d xs a.1)

pub among_first : (d : ℕ) (xs : List ℕ) → Ascending xs → option_eq nat_eq (first_from d xs) (Some d) ≡ among d xs
among_first d [] a = refl
among_first d (y ∷ ys) a =
    ⊎_elim
    (λ t.
    let n : among d ys ≡ false = none_past d ys (All-weaker (λ z. y < z) (λ z. d < z) (λ z h. omega (arith, t.1)) ys a.0) in
    let s : eqb y d ≡ (eqb d y || false) = grind (arith, nat_tests) in
    rw (t.0, n) s)
    (λ f.
    let l = f.1 in
    let n : eqb d y ≡ false = grind (arith, nat_tests) in
    rw (f.0, n) (among_first d ys a.1))
    (leb_tells d y)
