-- The fields of a text that was put together from them.
use Rattle.std.proofs.Common.{◌≡◌, ℕ, List, [], ◌∷◌, ◌++◌, map, refl, ap, ◌∙◌}
use Rattle.std.specs.List.{flat_map, AllByRecursion}
use Rattle.std.proofs.lemmas.List.{append-nil}
use Rattle.std.proofs.lemmas.Bool.{eq-eqb, ne_eqb}
use Rattle.rule_text.specs.Lists.{extended, fields_at}

abbrev pub Lacks : ℕ → List ℕ → Type 0
Lacks x ys = AllByRecursion (λ y. y ≡ x → ⊥) ys

module _ (x : ℕ) where
  pub fields_last : (f : List ℕ) → Lacks x f → fields_at x f ≡ f ∷ []
  fields_last [] h = refl
  fields_last (y ∷ f) h = rw (ne_eqb y x h.0) (ap (extended y) (fields_last f h.1))

  pub fields_more : (f ys : List ℕ) → Lacks x f → fields_at x (f ++ (x ∷ ys)) ≡ f ∷ fields_at x ys
  fields_more [] ys h = rw (eq-eqb x x refl)
  fields_more (y ∷ f) ys h = rw (ne_eqb y x h.0) (ap (extended y) (fields_more f ys h.1))

  pub fields_joined : {X : Type 0} (text : X → List ℕ) (y : X) (ys : List X) → AllByRecursion (λ z. Lacks x (text z)) (y ∷ ys) → fields_at x (text y ++ flat_map (λ z. x ∷ text z) ys) ≡ map text (y ∷ ys)
  fields_joined text y [] h = ap (fields_at x) (append-nil (text y)) ∙ fields_last (text y) h.0
  fields_joined text y (z ∷ zs) h = fields_more (text y) (text z ++ flat_map (λ u. x ∷ text u) zs) h.0 ∙ ap (λ fs. text y ∷ fs) (fields_joined text z zs h.1)
