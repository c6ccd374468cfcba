-- What an answer that came through several steps says of each.
use Rattle.std.proofs.Common.{◌≡◌, ℕ, Some, None, Ok, Err, Option, Result, refl, ap, arith}
use Rattle.refusal.specs.declared.Refusal.{Refusal}
use Rattle.notation.specs.Fields.{formed, in_range, and_then}

pub err_ok : {Y : Type 0} (e : Refusal) (y : Y) → ◌≡◌ {A = Result Y Refusal} (Err e) (Ok y) → ⊥
err_ok e y p = let z : ◌≡◌ {A = ℕ} 0 1 = cc in omega arith

-- both steps were answered
pub both : {X Y G : Type 0} (r : Result X Refusal) (f : X → Result Y Refusal) (y : Y) → and_then r f ≡ Ok y → ((x : X) → r ≡ Ok x → f x ≡ Ok y → G) → G
both (Ok x) f y e k = k x refl e
both (Err w) f y e k = absurd (err_ok w y e)

pub was_formed : {X : Type 0} (o : Option X) (x : X) → formed o ≡ Ok x → o ≡ Some x
was_formed None x e = absurd (err_ok _ x e)
was_formed (Some y) x e = let p : y ≡ x = cc in ap (λ z. Some z) p

pub was_there : {X : Type 0} (o : Option X) (x : X) → in_range o ≡ Ok x → o ≡ Some x
was_there None x e = absurd (err_ok _ x e)
was_there (Some y) x e = let p : y ≡ x = cc in ap (λ z. Some z) p
