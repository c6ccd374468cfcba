-- The values of a list.
use Rattle.std.specs.Prelude.{ℕ, List, take}
use Rattle.bounded.specs.declared.lists.Bounded.{Bounded}

abbrev pub held : {T : Type 0} {n : ℕ} → Bounded T n → List T
held b = take b.len b.items
