-- The room of a diary for its agenda.
use Rattle.std.specs.Prelude.{ℕ, ◌*◌, ◌≤◌, vec_len}
use Rattle.diary.specs.declared.diaries.Diary.{Diary}

-- two nodes for each place of the store
abbrev pub Roomy : {St : Type 0} → (St → ℕ) → Diary St → Type 0
Roomy limit d = 2 * limit d.store ≤ vec_len d.nodes
