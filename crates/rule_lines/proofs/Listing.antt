-- A list's entries, one behind the other.
use Rattle.std.proofs.Common.{◌≡◌, ℕ, ◌+◌, ◌<◌, ◌≤◌, cond, eqb, List, [], ◌∷◌, ◌++◌, length, get_or, take, drop, sym, ap, ◌∙◌, arith}
use Rattle.std.specs.List.{flat_map}
use Rattle.std.proofs.lemmas.List.{append-nil, append_assoc, length-append, length-take-le, take-append-drop, take_more}
use Rattle.std.proofs.lemmas.Bool.{ne_eqb}
use Rattle.std.proofs.lemmas.Grind.{flat_map-append}
use Rattle.rule_lines.specs.Writing.{list_text}

-- what stands before an entry
abbrev pub mark_at : List ℕ → ℕ → List ℕ
mark_at name i = cond (eqb i 0) name (44 ∷ [])

module _ {X : Type 0} (name : List ℕ) (text : X → List ℕ) where
  list_push : (ys : List X) (x : X) → list_text name text (ys ++ (x ∷ [])) ≡ list_text name text ys ++ (mark_at name (length ys) ++ text x)
  list_push [] x = ap (λ zs. name ++ zs) (append-nil (text x))
  list_push (y ∷ ys) x =
      let g : X → List ℕ = λ z. 44 ∷ text z in
      rw (ne_eqb (length (y ∷ ys)) 0 (λ e. omega arith))
      (ap (λ zs. name ++ (text y ++ zs)) (flat_map-append g ys (x ∷ []) ∙ ap (λ zs. flat_map g ys ++ zs) (append-nil (g x)))
      ∙ ap (λ zs. name ++ zs) (sym (append_assoc (text y) (flat_map g ys) (g x)))
      ∙ sym (append_assoc name (text y ++ flat_map g ys) (g x)))

  list_front : (ys zs : List X) → length (list_text name text ys) ≤ length (list_text name text (ys ++ zs))
  list_front [] zs = omega arith
  list_front (y ∷ ys) zs =
      let g : X → List ℕ = λ z. 44 ∷ text z in
      let e = ap length (flat_map-append g ys zs) in
      omega (arith, e, length-append (flat_map g ys) (flat_map g zs), length-append name (text y ++ flat_map g ys), length-append (text y) (flat_map g ys), length-append name (text y ++ flat_map g (ys ++ zs)), length-append (text y) (flat_map g (ys ++ zs)))

  module _ (xs : List X) (i : ℕ) (x : X) (h : i < length xs) (e : x ≡ get_or xs i x) where
    -- one entry more
    pub list_more : list_text name text (take (i + 1) xs) ≡ list_text name text (take i xs) ++ (mark_at name i ++ text x)
    list_more =
        ap (list_text name text) (take_more xs i x h ∙ ap (λ z. take i xs ++ (z ∷ [])) (sym e)) ∙ list_push (take i xs) x
        ∙ ap (λ k. list_text name text (take i xs) ++ (mark_at name k ++ text x)) (length-take-le i xs (omega arith))

    -- the entries up to one, and that one, are no longer than all
    pub list_within : length (list_text name text (take i xs)) + length (mark_at name i ++ text x) ≤ length (list_text name text xs)
    list_within =
        let a = ap length list_more in
        let b = length-append (list_text name text (take i xs)) (mark_at name i ++ text x) in
        let c = list_front (take (i + 1) xs) (drop (i + 1) xs) in
        let d = ap (λ ys. length (list_text name text ys)) (take-append-drop (i + 1) xs) in
        omega (arith, a, b, c, d)
