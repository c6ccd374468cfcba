-- Rows climb where they ascend.
use Rattle.std.specs.Prelude.{◌≡◌, ℕ, true, List, [], ◌∷◌}
use Rattle.std.proofs.Math.Path.{refl}
use Rattle.std.specs.List.{AllByRecursion}
use Rattle.std.proofs.lemmas.Bool.{and_parts, and_from}
use Rattle.series.specs.Order.{Ahead, precedes}
use Rattle.series.proofs.Orders.{precedes_ahead, ahead_precedes}
use Rattle.store.specs.declared.pairs.Pair.{Pair}
use Rattle.store.specs.Pairs.{key, Ascends}
use Rattle.table.specs.Rows.{leads, climbs}

module _ {S : Type 0} where
  leads_all : (u : List ℕ) (ps : List (Pair S)) → leads u ps ≡ true → AllByRecursion (λ p. Ahead u (key p)) ps
  unfolding leads
  leads_all u [] h = tt
  leads_all u (p ∷ ps) h = let t = and_parts (precedes u (key p)) (leads u ps) h in (precedes_ahead u (key p) t.0, leads_all u ps t.1)

  all_leads : (u : List ℕ) (ps : List (Pair S)) → AllByRecursion (λ p. Ahead u (key p)) ps → leads u ps ≡ true
  unfolding leads
  all_leads u [] a = refl
  all_leads u (p ∷ ps) a = and_from (precedes u (key p)) (leads u ps) (ahead_precedes u (key p) a.0) (all_leads u ps a.1)

  pub ascends : (ps : List (Pair S)) → climbs ps ≡ true → Ascends ps
  unfolding climbs
  ascends [] h = tt
  ascends (p ∷ ps) h = let t = and_parts (leads (key p) ps) (climbs ps) h in (leads_all (key p) ps t.0, ascends ps t.1)

  pub climb : (ps : List (Pair S)) → Ascends ps → climbs ps ≡ true
  unfolding climbs
  climb [] h = refl
  climb (p ∷ ps) h = and_from (leads (key p) ps) (climbs ps) (all_leads (key p) ps h.0) (climb ps h.1)
