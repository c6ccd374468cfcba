-- Where a key stands, or would stand, among ascending records.
use Rattle.std.specs.Prelude.{ℕ, ◌<◌, ◌≤◌, List, length, slice_index_or}

-- each record lies before all that follow it
abbrev pub Rising : {R : Type 0} → (R → R → Type 0) → List R → Type 0
Rising {R} before xs = (i j : ℕ) (d : R) → i < j → j < length xs → before (slice_index_or xs i d) (slice_index_or xs j d)

-- the record at i has the key
pub record Present {R K : Type 0} (same : R → K → Type 0) (xs : List R) (key : K) (i : ℕ) : Type 0 where
  pub within : i < length xs
  pub there : (d : R) → same (slice_index_or xs i d) key

-- the records before i lie below the key, those from i on above it, and none has it
pub record Absent {R K : Type 0} (less same more : R → K → Type 0) (xs : List R) (key : K) (i : ℕ) : Type 0 where
  pub within : i ≤ length xs
  pub below : (j : ℕ) (d : R) → j < i → less (slice_index_or xs j d) key
  pub above : (j : ℕ) (d : R) → i ≤ j → j < length xs → more (slice_index_or xs j d) key
  pub none : (j : ℕ) (d : R) → j < length xs → same (slice_index_or xs j d) key → ⊥
