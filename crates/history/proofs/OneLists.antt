-- What is chosen pins one list, and depends on the members alone.
use Rattle.std.proofs.Common.{◌≡◌, ℕ, ◌<◌, ◌⊎◌, List, subst, inl, inr, arith}
use Rattle.series.specs.Order.{Ahead}
use Rattle.series.specs.Plans.{Occurrence, shown_start}
use Rattle.series.proofs.Orders.{asymmetric, irreflexive}
use Rattle.history.specs.Agendas.{Before}
use Rattle.history.specs.Laws.{OneList, SameMembers}
use Rattle.history.proofs.Members.{same_list}

tie_asym : (u v : List ℕ) (c d : ℕ) → Ahead u v ⊎ ((u ≡ v) × (c < d)) → Ahead v u ⊎ ((v ≡ u) × (d < c)) → ⊥
tie_asym u v c d (inl h) (inl k) = asymmetric u v h k
tie_asym u v c d (inl h) (inr k) = irreflexive u (subst (Ahead u) k.0 h)
tie_asym u v c d (inr h) (inl k) = irreflexive v (subst (Ahead v) h.0 k)
tie_asym u v c d (inr h) (inr k) = let l = h.1 in let m = k.1 in omega arith

starts_asym : (a b : ℕ) (u v : List ℕ) (c d : ℕ) → (a < b) ⊎ ((a ≡ b) × (Ahead u v ⊎ ((u ≡ v) × (c < d)))) → (b < a) ⊎ ((b ≡ a) × (Ahead v u ⊎ ((v ≡ u) × (d < c)))) → ⊥
starts_asym a b u v c d (inl h) (inl k) = omega arith
starts_asym a b u v c d (inl h) (inr k) = let e = k.0 in omega arith
starts_asym a b u v c d (inr h) (inl k) = let e = h.0 in omega arith
starts_asym a b u v c d (inr h) (inr k) = tie_asym u v c d h.1 k.1

pub before_asym : (o p : Occurrence) → Before o p → Before p o → ⊥
before_asym o p h k = starts_asym (shown_start o) (shown_start p) o.uid p.uid o.day p.day h k

pub one_list : OneList
one_list chosen os l m a b = same_list Before before_asym l m a.ordered b.ordered (λ o. (λ h. (b.members o).1 ((a.members o).0 h), λ h. (a.members o).1 ((b.members o).0 h)))

pub agenda_like : SameMembers
agenda_like chosen os ps l h a = record { ordered = a.ordered; members = λ o. (λ m. let k = (a.members o).0 m in ((h o).0 k.0, k.1), λ k. (a.members o).1 ((h o).1 k.0, k.1)) }
