-- A UID has a place just where it has a series.
use Rattle.std.proofs.Common.{◌≡◌, ℕ, suc, Bool, true, false, cond, List, [], ◌∷◌, is_some, Some, refl}
use Rattle.std.specs.Str.{bytes_eq}
use Rattle.store.specs.declared.pairs.Pair.{Pair}
use Rattle.store.specs.Pairs.{key, place_from, held}

pub place_held : {S : Type 0} (n : ℕ) (u : List ℕ) (ps : List (Pair S)) → is_some (place_from n u ps) ≡ is_some (held u ps)
place_held n u [] = refl
place_held n u (p ∷ ps) = go (bytes_eq (key p) u) (place_held (suc n) u ps)
  where
    go : (b : Bool) → is_some (place_from (suc n) u ps) ≡ is_some (held u ps) → is_some (cond b (Some n) (place_from (suc n) u ps)) ≡ is_some (cond b (Some p.series) (held u ps))
    go true e = refl
    go false e = e
