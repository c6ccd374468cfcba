-- A text cut at the first octet of a kind, octet by octet.
use Rattle.std.proofs.Common.{◌≡◌, ℕ, suc, ◌+◌, ◌-◌, eqb, List, [], ◌∷◌, ◌++◌, length, take, drop, position, Some, None, Option, refl, ap, ◌∙◌, ⊎_elim, arith}
use Rattle.std.specs.Option.{option_map}
use Rattle.std.specs.List.{AllByRecursion}
use Rattle.std.proofs.lemmas.List.{take_rest}
use Rattle.std.specs.List.{position_or_len}
use Rattle.std.proofs.lemmas.Bool.{eq-eqb, ne_eqb, cases_lt, lt-ltb, le-ltb}
use Rattle.std.proofs.lemmas.Bool.Decides.{eqb_tells}
use Rattle.notation.specs.Fields.{cut_at}

-- a text is cut at the place of the first such octet
cut_position : (x : ℕ) (xs : List ℕ) → cut_at x xs ≡ option_map (λ i. (take i xs, drop (i + 1) xs)) (position (λ y. eqb y x) xs)
cut_position x [] = refl
cut_position x (y ∷ ys) =
    ⊎_elim
    (λ t. rw (t.0, lt-ltb 0 (length (y ∷ ys)) (omega arith)) refl)
    (λ f.
    let k = position_or_len (λ y. eqb y x) ys in
    let a : 1 + k ≡ suc k = omega arith in
    let b : suc k + 1 ≡ suc (k + 1) = omega arith in
    ⊎_elim
    (λ l.
    let e : cut_at x ys ≡ Some (take k ys, drop (k + 1) ys) = rw (lt-ltb k (length ys) l) at (cut_position x ys) in
    rw (f.0, lt-ltb (1 + k) (length (y ∷ ys)) (omega arith), a, b, e) refl)
    (λ g.
    let e : cut_at x ys ≡ None = rw (le-ltb k (length ys) g) at (cut_position x ys) in
    rw (f.0, le-ltb (1 + k) (length (y ∷ ys)) (omega arith), e) refl)
    (cases_lt k (length ys)))
    (eqb_tells y x)

pub cut_missed : (x : ℕ) (xs : List ℕ) → position (λ y. eqb y x) xs ≡ None → cut_at x xs ≡ None
cut_missed x xs e = cut_position x xs ∙ ap (option_map (λ i. (take i xs, drop (i + 1) xs))) e

pub cut_there : (x : ℕ) (xs : List ℕ) (i : ℕ) → position (λ y. eqb y x) xs ≡ Some i → cut_at x xs ≡ Some (take i xs, take (length xs - (i + 1)) (drop (i + 1) xs))
cut_there x xs i e = rw (take_rest xs (i + 1)) (cut_position x xs ∙ ap (option_map (λ i. (take i xs, drop (i + 1) xs))) e)

-- what a cut gives puts together again
pub cut_joins : (x : ℕ) (xs a b : List ℕ) → cut_at x xs ≡ Some (a, b) → xs ≡ a ++ (x ∷ b)
cut_joins x [] a b e = let z : ◌≡◌ {A = ℕ} 0 1 = cc in absurd (omega arith)
cut_joins x (y ∷ ys) a b e =
    ⊎_elim
    (λ t.
    let f : ◌≡◌ {A = Option (List ℕ × List ℕ)} (Some ([], ys)) (Some (a, b)) = rw t.0 at e in
    let p : ◌≡◌ {A = List ℕ} [] a = ap first f in
    let q : ys ≡ b = ap second f in
    λ j. p j ++ (t.1 j ∷ q j))
    (λ f. go (λ p h. cut_joins x ys p.0 p.1 h) (cut_at x ys) refl (rw f.0 at e))
    (eqb_tells y x)
  where
    first : Option (List ℕ × List ℕ) → List ℕ
    first None = []
    first (Some p) = p.0

    second : Option (List ℕ × List ℕ) → List ℕ
    second None = ys
    second (Some p) = p.1

    go : ((p : List ℕ × List ℕ) → cut_at x ys ≡ Some p → ys ≡ p.0 ++ (x ∷ p.1)) → (o : Option (List ℕ × List ℕ)) → cut_at x ys ≡ o → option_map {U = List ℕ × List ℕ} (λ p. (y ∷ p.0, p.1)) o ≡ Some (a, b) → y ∷ ys ≡ a ++ (x ∷ b)
    go ih None f e = let z : ◌≡◌ {A = ℕ} 0 1 = cc in absurd (omega arith)
    go ih (Some p) f e =
        let h : y ∷ p.0 ≡ a = ap first e in
        let k : p.1 ≡ b = ap second e in
        ap (λ zs. y ∷ zs) (ih p f) ∙ (λ j. h j ++ (x ∷ k j))

-- and a text put together is cut there, where the first field lacks the mark
pub cut_finds : (x : ℕ) (a b : List ℕ) → AllByRecursion (λ y. y ≡ x → ⊥) a → cut_at x (a ++ (x ∷ b)) ≡ Some (a, b)
cut_finds x [] b h = rw (eq-eqb x x refl)
cut_finds x (y ∷ a) b h = rw (ne_eqb y x h.0) (ap (option_map (λ p. (y ∷ p.0, p.1))) (cut_finds x a b h.1))
