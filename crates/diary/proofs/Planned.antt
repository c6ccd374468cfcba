-- The plans of a store's pairs, as a list and as a map.
use Rattle.std.proofs.Common.{◌≡◌, ℕ, Bool, true, false, cond, List, [], ◌∷◌, Some, refl, ap}
use Rattle.std.specs.Option.{option_map}
use Rattle.std.specs.List.{AllByRecursion}
use Rattle.std.specs.Str.{bytes_eq}
use Rattle.series.specs.Order.{Ahead, precedes}
use Rattle.series.specs.Plans.{Plan, plan_of}
use Rattle.history.specs.States.{at, placing, Ascends as AscendPlans}
use Rattle.store.specs.declared.pairs.Pair.{Pair}
use Rattle.store.specs.Pairs.{key, Ascends, held, placed}
use Rattle.merge.specs.Printed.{plans_of}

module _ {S : Type 0} (days : S → List ℕ) where
  pub at_plans : (u : List ℕ) (ps : List (Pair S)) → at (plans_of days ps) u ≡ option_map (plan_of days) (held u ps)
  at_plans u [] = refl
  at_plans u (p ∷ ps) = go (bytes_eq (key p) u) (at_plans u ps)
    where
      go : (b : Bool) → at (plans_of days ps) u ≡ option_map (plan_of days) (held u ps) → cond b (Some (plan_of days p.series)) (at (plans_of days ps) u) ≡ option_map (plan_of days) (cond b (Some p.series) (held u ps))
      go true e = refl
      go false e = e

  pub plans_placed : (q : Pair S) (ps : List (Pair S)) → plans_of days (placed q ps) ≡ placing (key q) (Some (plan_of days q.series)) (plans_of days ps)
  plans_placed q [] = refl
  plans_placed q (p ∷ ps) = go (precedes (key q) (key p)) (bytes_eq (key p) (key q)) (plans_placed q ps)
    where
      plan : Pair S → List ℕ × Plan
      plan r = (key r, plan_of days r.series)

      go : (a b : Bool) → plans_of days (placed q ps) ≡ placing (key q) (Some (plan_of days q.series)) (plans_of days ps)
          → plans_of days (cond a (q ∷ p ∷ ps) (cond b (q ∷ ps) (p ∷ placed q ps)))
          ≡ cond a ((key q, plan_of days q.series) ∷ plans_of days (p ∷ ps)) (cond b ((key q, plan_of days q.series) ∷ plans_of days ps) ((key p, plan_of days p.series) ∷ placing (key q) (Some (plan_of days q.series)) (plans_of days ps)))
      go true b e = refl
      go false true e = refl
      go false false e = ap (λ ys. (key p, plan_of days p.series) ∷ ys) e

  all_plans : (u : List ℕ) (ps : List (Pair S)) → AllByRecursion (λ p. Ahead u (key p)) ps → AllByRecursion (λ e. Ahead u e.0) (plans_of days ps)
  all_plans u [] a = tt
  all_plans u (p ∷ ps) a = (a.0, all_plans u ps a.1)

  pub plans_ascend : (ps : List (Pair S)) → Ascends ps → AscendPlans (plans_of days ps)
  plans_ascend [] a = tt
  plans_ascend (p ∷ ps) a = (all_plans (key p) ps a.0, plans_ascend ps a.1)
