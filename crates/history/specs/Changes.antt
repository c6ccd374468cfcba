-- What a change, its undo, and the work on drafts make of a state.
use Rattle.std.specs.Prelude.{◌≡◌, ℕ, ◌⊎◌, List, ◌∷◌, take, Some, None}
use Rattle.series.specs.Members.{Mem}
use Rattle.history.specs.Items.{Edit}
use Rattle.history.specs.Histories.{remembered}
use Rattle.history.specs.States.{Record, at, puts, priors, Draft, State}

-- the plans of a record are put; what stood there is the newest undo record, and the oldest of too many is forgotten
pub record Changed (es : Record) (old new : State) : Type 0 where
  pub plans : (w : List ℕ) → at new.plans w ≡ puts es (at old.plans) w
  pub undo : new.undo ≡ take remembered (priors es (at old.plans) ∷ old.undo)
  pub drafts : (d : Draft) → Mem d new.drafts → Mem d old.drafts

-- the newest undo record is put, and is gone
pub record Undone (r : Record) (old new : State) : Type 0 where
  pub plans : (w : List ℕ) → at new.plans w ≡ puts r (at old.plans) w
  pub undo : old.undo ≡ r ∷ new.undo
  pub drafts : (d : Draft) → Mem d new.drafts → Mem d old.drafts

-- each draft is one of those there were, or is open; nothing else has changed
pub record Redrafted (old new : State) : Type 0 where
  pub plans : (w : List ℕ) → at new.plans w ≡ at old.plans w
  pub undo : new.undo ≡ old.undo
  pub drafts : (d : Draft) → Mem d new.drafts → (d.edit ≡ None) ⊎ Mem d old.drafts

-- the draft of a number has the edit, and each other is one of those there were; nothing else has changed
pub record Checked (n : ℕ) (e : Edit) (old new : State) : Type 0 where
  pub plans : (w : List ℕ) → at new.plans w ≡ at old.plans w
  pub undo : new.undo ≡ old.undo
  pub drafts : (d : Draft) → Mem d new.drafts → ((d.number ≡ n) × (d.edit ≡ Some e)) ⊎ ((¬ (d.number ≡ n)) × Mem d old.drafts)
