-- The order of nodes by start and place, and the tournament over a list of them.
use Rattle.std.specs.Prelude.{◌≡◌, ℕ, ◌+◌, ◌*◌, ◌<◌, ◌≤◌, ◌⊎◌, List, slice_index_or}
use Rattle.tournament.specs.declared.nodes.Node.{Node}

-- (start, place) in dictionary order, as one number: a place is below 2 ^ 64
abbrev pub rank : Node → ℕ
rank a = a.start * 18446744073709551616 + a.place

-- r is the better of a and b
pub record Better (a b r : Node) : Type 0 where
  pub left : rank r ≤ rank a
  pub right : rank r ≤ rank b
  pub among : (r ≡ a) ⊎ (r ≡ b)

-- the node at k
abbrev pub node : List Node → ℕ → Node
node t k = slice_index_or t k (record { start = 0; place = 0; day = 0 })

-- the node at k is the better of its children
abbrev pub Won : List Node → ℕ → Type 0
Won t k = Better (node t (2 * k)) (node t (2 * k + 1)) (node t k)

-- every node from 1 on is, where the leaves stand from n on
abbrev pub Played : ℕ → List Node → Type 0
Played n t = (k : ℕ) → 1 ≤ k → k < n → Won t k

-- the leaf of the place p has that place
abbrev pub Seated : ℕ → List Node → Type 0
Seated n t = (p : ℕ) → p < n → (node t (n + p)).place ≡ p
