-- The map's put and puts; what a record of puts changed, the record of what stood before takes back.
use Rattle.std.proofs.Common.{◌≡◌, ℕ, true, false, cond, ◌⊎◌, List, [], ◌∷◌, map, Option, sym, refl, ap, ◌∙◌, inl, inr}
use mathlib.Core.Path.{fun_ext}
use Rattle.std.specs.Str.{bytes_eq}
use Rattle.std.proofs.lemmas.Bool.{cases_Bool, false_from_ne_true}
use Rattle.std.proofs.lemmas.Bool.Decides.{not_from_Decides}
use Rattle.std.proofs.lemmas.Slice.Eq.{bytes_eq-Decides}
use Rattle.series.specs.Members.{Mem}
use Rattle.series.specs.Plans.{Plan}
use Rattle.history.specs.States.{Map, put, puts, Record, priors}
use Rattle.history.specs.PlanLaws.{TakenBack}

-- two UIDs: the same or not, with the test's value
pub same_uid : {u w : List ℕ} → u ≡ w → bytes_eq u w ≡ true
same_uid {u} {w} e = (bytes_eq-Decides u w).1 e

pub own_uid : (u : List ℕ) → bytes_eq u u ≡ true
own_uid u = same_uid {u = u} {w = u} refl

pub other_uid : {u w : List ℕ} → ¬ (u ≡ w) → bytes_eq u w ≡ false
other_uid {u} {w} n = false_from_ne_true (bytes_eq u w) (λ t. n ((bytes_eq-Decides u w).0 t))

pub decide : (u w : List ℕ) → (u ≡ w) ⊎ (¬ (u ≡ w))
decide u w = elim (cases_Bool (bytes_eq u w)) [
  | inl t ↦ inl ((bytes_eq-Decides u w).0 t)
  | inr t ↦ inr (not_from_Decides (bytes_eq u w) (bytes_eq-Decides u w) t)
]

pub put_same : (u : List ℕ) (v : Option Plan) (f : Map) (w : List ℕ) → u ≡ w → put u v f w ≡ v
put_same u v f w e = ap (λ b. cond b v (f w)) (same_uid e)

pub put_other : (u : List ℕ) (v : Option Plan) (f : Map) (w : List ℕ) → ¬ (u ≡ w) → put u v f w ≡ f w
put_other u v f w n = ap (λ b. cond b v (f w)) (other_uid n)

abbrev uids : Record → List (List ℕ)
uids es = map (λ e. e.0) es

puts_elsewhere : (es : Record) (f : Map) (w : List ℕ) → Mem w (uids es) ⊎ (puts es f w ≡ f w)
puts_elsewhere [] f w = inr refl
puts_elsewhere (e ∷ es) f w =
    elim (decide e.0 w) [
      | inl q ↦ inl (inl (sym q))
      | inr n ↦
          elim (puts_elsewhere es (put e.0 e.1 f) w) [ inl m ↦ inl (inr m) | inr q ↦ inr (q ∙ put_other e.0 e.1 f w n) ]
    ]

puts_back : (es : Record) (f g : Map) (w : List ℕ) → Mem w (uids es) ⊎ (g w ≡ f w) → puts (priors es f) g w ≡ f w
puts_back [] f g w (inl h) = absurd h
puts_back [] f g w (inr e) = e
puts_back (e ∷ es) f g w h = puts_back es f (put e.0 (f e.0) g) w (next (decide e.0 w) h)
  where
    next : (e.0 ≡ w) ⊎ (¬ (e.0 ≡ w)) → Mem w (e.0 ∷ uids es) ⊎ (g w ≡ f w) → Mem w (uids es) ⊎ (put e.0 (f e.0) g w ≡ f w)
    next (inl q) h = inr (put_same e.0 (f e.0) g w q ∙ ap f q)
    next (inr n) (inl (inl q)) = absurd (n (sym q))
    next (inr n) (inl (inr m)) = inl m
    next (inr n) (inr q) = inr (put_other e.0 (f e.0) g w n ∙ q)

-- undo, for every edit at once
pub back : TakenBack
back es f = fun_ext (λ w. puts_back es f (puts es f) w (puts_elsewhere es f w))
