-- Pairs of UID and series, and how they change.
use Rattle.std.specs.Prelude.{◌≡◌, ℕ, suc, ◌≤◌, cond, List, [], ◌∷◌, length, Some, None, Option, slice_get}
use Rattle.std.specs.Str.{bytes_eq}
use Rattle.series.specs.declared.stored.StoredSeries.{StoredSeries}
use Rattle.series.specs.Members.{Ordered}
use Rattle.series.specs.Order.{Ahead, precedes}
use Rattle.series.specs.Values.{uid_octets}
use Rattle.store.specs.declared.pairs.Pair.{Pair}

module _ {S : Type 0} where
  abbrev pub key : Pair S → List ℕ
  key p = uid_octets p.uid

  -- the UIDs ascend, so none comes twice
  abbrev pub Ascends : List (Pair S) → Type 0
  Ascends ps = Ordered (λ p q. Ahead (key p) (key q)) ps

  -- the pair at a place, or none past the last
  abbrev pub pair_at : List (Pair S) → ℕ → Option (Pair S)
  pair_at ps i = slice_get ps i

  -- the place of a UID, counted from n on, or none
  abbrev pub place_from : ℕ → List ℕ → List (Pair S) → Option ℕ
  place_from n u [] = None
  place_from n u (p ∷ ps) = cond (bytes_eq (key p) u) (Some n) (place_from (suc n) u ps)

  abbrev pub place_of : List ℕ → List (Pair S) → Option ℕ
  place_of u ps = place_from 0 u ps

  -- the series of a UID, or none
  abbrev pub held : List ℕ → List (Pair S) → Option (StoredSeries S)
  held u [] = None
  held u (p ∷ ps) = cond (bytes_eq (key p) u) (Some p.series) (held u ps)

  -- the pair of a UID, or none
  abbrev pub found : List ℕ → List (Pair S) → Option (Pair S)
  found u [] = None
  found u (p ∷ ps) = cond (bytes_eq (key p) u) (Some p) (found u ps)

  -- the pairs with this one: in the place of the one with its UID, else added in order
  abbrev pub placed : Pair S → List (Pair S) → List (Pair S)
  placed q [] = q ∷ []
  placed q (p ∷ ps) = cond (precedes (key q) (key p)) (q ∷ p ∷ ps) (cond (bytes_eq (key p) (key q)) (q ∷ ps) (p ∷ placed q ps))

  -- the pairs without that of a UID
  abbrev pub without : List ℕ → List (Pair S) → List (Pair S)
  without u [] = []
  without u (p ∷ ps) = cond (bytes_eq (key p) u) ps (p ∷ without u ps)

  -- a put was refused (15): the UID is new, there is no room, and nothing has changed
  pub record Full (limit : ℕ) (q : Pair S) (old new : List (Pair S)) (n : ℕ) : Type 0 where
    pub number : n ≡ 15
    pub new_uid : held (key q) old ≡ None
    pub no_room : limit ≤ length old
    pub unchanged : new ≡ old
