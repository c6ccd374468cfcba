-- What it means that nothing is refused of an entry.
use Rattle.std.proofs.Common.{◌≡◌, ℕ, true, false, cond, ltb, List, is_some, Some, None, Option, sym, refl, ap, ◌∙◌}
use Rattle.series.specs.declared.overrides.Overrides.{Overrides}
use Rattle.series.specs.declared.stored.StoredSeries.{StoredSeries}
use Rattle.store.specs.declared.pairs.Pair.{Pair}
use Rattle.store.specs.Pairs.{key, held}
use Rattle.diary.specs.declared.drafts.Draft.{Draft}
use Rattle.diary.specs.declared.entries.Entry.{Entry}
use Rattle.diary.specs.Entries.{values_fit, PairOf, state_refusal, enter_refusal}

module _ {S : Type 0} (days : S → List ℕ) (limit : ℕ) (pairs : List (Pair S)) (slots : List (Option Draft)) where
  -- the UID is then not there
  pub accepted_free : (uid : List ℕ) (source : S) (overrides : Overrides) → state_refusal days limit pairs slots uid source overrides ≡ None → held uid pairs ≡ None
  accepted_free uid source overrides e = go (held uid pairs) _ e
    where
      go : (v : Option (StoredSeries S)) (rest : Option ℕ) → cond (is_some v) (Some 12) rest ≡ None → v ≡ None
      go None rest e = refl
      go (Some s) rest e = cc

  pub accepted : (places : ℕ) (uid : List ℕ) (e : Entry S) (q : Pair S) → ltb places 16 ≡ false → values_fit uid e ≡ true → PairOf uid e q
      → state_refusal days limit pairs slots (key q) q.series.repeats.source q.series.overrides ≡ None → enter_refusal days places limit pairs slots uid e ≡ None
  accepted places uid e q long fits m none =
      ap (λ b. cond b (Some 26) (cond (values_fit uid e) (state_refusal days limit pairs slots uid e.source e.overrides) (Some 8))) long
      ∙ ap (λ b. cond b (state_refusal days limit pairs slots uid e.source e.overrides) (Some 8)) fits
      ∙ (λ j. state_refusal days limit pairs slots (sym m.uid_is j) (sym m.source j) (sym m.overrides j))
      ∙ none
