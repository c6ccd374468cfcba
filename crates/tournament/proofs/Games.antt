-- The root of a played tree is its best leaf; a write to one node keeps the games that it is not in.
use Rattle.std.proofs.Common.{◌≡◌, ℕ, zero, suc, ◌+◌, ◌-◌, ◌*◌, ◌/◌, ◌<◌, ◌≤◌, ◌≢◌, List, set, sym, ap, subst, ⊎_elim, arith}
use Rattle.std.proofs.lemmas.List.{get_or-set_other}
use Rattle.std.proofs.lemmas.Bool.{cases_eq, cases_lt}
use Rattle.tournament.specs.declared.nodes.Node.{Node}
use Rattle.tournament.specs.Ranks.{rank, Won, Seated, Played, node}

-- a write at j leaves the game at k, unless j is in it
pub kept : (t : List Node) (j k : ℕ) (x : Node) → Won t k → k ≢ j → 2 * k ≢ j → 2 * k + 1 ≢ j → Won (set t j x) k
kept t j k x w a b c = rw (get_or-set_other t j k x _ a, get_or-set_other t j (2 * k) x _ b, get_or-set_other t j (2 * k + 1) x _ c) w

-- what a write to the leaf at j asks to be played again
pub changed : (n : ℕ) (t : List Node) (j : ℕ) (x : Node) → n ≤ j → Played n t → (k : ℕ) → 1 ≤ k → k < n → k ≢ j / 2 → Won (set t j x) k
changed n t j x h w k one l ne = kept t j k x (w k one l) (λ e. omega (arith, e)) (λ e. ne (omega (arith, e))) (λ e. ne (omega (arith, e)))

module _ (n : ℕ) (t : List Node) (played : Played n t) where
  -- the root is as good as each node, by its parents
  root_under : (fuel k : ℕ) → k ≤ fuel → 1 ≤ k → k < 2 * n → rank (node t 1) ≤ rank (node t k)
  root_under zero k f one l = let z : ⊥ = omega arith in absurd z
  root_under (suc fuel) k f one l = ⊎_elim
      (λ e. rw e (omega arith))
      (λ ne.
      let up : rank (node t 1) ≤ rank (node t (k / 2)) = root_under fuel (k / 2) (omega arith) (omega arith) (omega arith) in
      let w : Won t (k / 2) = played (k / 2) (omega arith) (omega arith) in
      let P : ℕ → Type 0 = λ m. rank (node t (k / 2)) ≤ rank (node t m) in
      ⊎_elim
      (λ e. let s : P k = subst P (sym e) w.left in omega arith)
      (λ o. let e : 2 * (k / 2) + 1 ≡ k = omega arith in let s : P k = subst P e w.right in omega arith)
      (cases_eq k (2 * (k / 2))))
      (cases_eq k 1)

  pub root_best : (k : ℕ) → 1 ≤ k → k < 2 * n → rank (node t 1) ≤ rank (node t k)
  root_best k one l = root_under k k (omega arith) one l

  -- each node is the leaf of its place
  abbrev Leaf : Node → Type 0
  Leaf x = (x.place < n) × (x ≡ node t (n + x.place))

  leaf_of : Seated n t → (fuel k : ℕ) → 2 * n ≤ fuel + k → 1 ≤ k → k < 2 * n → Leaf (node t k)
  leaf_of seated zero k f one l = let z : ⊥ = omega arith in absurd z
  leaf_of seated (suc fuel) k f one l = ⊎_elim
      (λ inner.
      let w : Won t k = played k one inner in
      ⊎_elim
      (λ e. subst Leaf (sym e) (leaf_of seated fuel (2 * k) (omega arith) (omega arith) (omega arith)))
      (λ e. subst Leaf (sym e) (leaf_of seated fuel (2 * k + 1) (omega arith) (omega arith) (omega arith)))
      w.among)
      (λ outer.
      let e : n + (k - n) ≡ k = omega arith in
      let s : (node t k).place ≡ k - n = subst (λ (m : ℕ). (node t m).place ≡ k - n) e (seated (k - n) (omega arith)) in
      (omega arith, let g : k ≡ n + (node t k).place = omega arith in ap (λ m. node t m) g))
      (cases_lt k n)

  pub root_leaf : Seated n t → 1 ≤ n → ((node t 1).place < n) × (node t 1 ≡ node t (n + (node t 1).place))
  root_leaf seated one = leaf_of seated (2 * n) 1 (omega arith) (omega arith) (omega arith)
