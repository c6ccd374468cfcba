-- The least of a set, where one more set is looked at.
use Rattle.std.proofs.Common.{◌≡◌, ℕ, ◌<◌, ◌≤◌, true, false, ◌⊎◌, Some, None, Option, inl, inr, arith}
use Rattle.std.proofs.lemmas.Bool.Decides.{nat_tests}
use Rattle.upcoming.specs.declared.keys.Key.{Key}
use Rattle.upcoming.specs.Least.{rank, Next}
use Rattle.upcoming.specs.Kinds.{beats}

module _ (s d end : ℕ) where
  -- the least of a set is that of another with the same members
  pub alike : (P Q : ℕ → ℕ → Type 0) → ((x y : ℕ) → P x y → Q x y) → ((x y : ℕ) → Q x y → P x y) → (r : Option Key) → Next P s d end r → Next Q s d end r
  alike P Q f g None h = λ x y q. h x y (g x y q)
  alike P Q f g (Some k) h = record { holds = f k.start k.day h.holds; reached = h.reached; within = h.within; least = λ x y q. h.least x y (g x y q) }

  -- the best stays the best where nothing new beats it
  pub stays : (P Q : ℕ → ℕ → Type 0) (best : Option Key) → Next P s d end best → ((x y : ℕ) → Q x y → rank s d ≤ rank x y → x < end → beats x y best ≡ false) → Next (λ x y. P x y ⊎ Q x y) s d end best
  stays P Q None h n = λ x y m r l. elim m [ inl p ↦ h x y p r l | inr q ↦ (let b = n x y q r l in let z : ◌≡◌ {A = ℕ} 0 1 = cc in absurd (omega arith)) ]
  stays P Q (Some k) h n = record {
    holds = inl h.holds;
    reached = h.reached;
    within = h.within;
    least = λ x y m r l. elim m [ inl p ↦ h.least x y p r l | inr q ↦ (let b = n x y q r l in grind (arith, nat_tests)) ];
  }

  -- a new one that beats it, and is the least of the new, takes its place
  pub takes : (P Q : ℕ → ℕ → Type 0) (best : Option Key) (k : Key) → Next P s d end best → Q k.start k.day → rank s d ≤ rank k.start k.day → k.start < end → beats k.start k.day best ≡ true → ((x y : ℕ) → Q x y → rank k.start k.day ≤ rank x y) → Next (λ x y. P x y ⊎ Q x y) s d end (Some k)
  takes P Q None k h q r w b n = record { holds = inr q; reached = r; within = w; least = λ x y m v l. elim m [ inl p ↦ absurd (h x y p v l) | inr u ↦ n x y u ] }
  takes P Q (Some o) k h q r w b n = record {
    holds = inr q;
    reached = r;
    within = w;
    least = λ x y m v l. elim m [ inl p ↦ (let z = h.least x y p v l in grind (arith, nat_tests)) | inr u ↦ n x y u ];
  }
