-- The entries of a part.
use Rattle.std.specs.Prelude.{Bool, not, List, replicate, take, ◌==◌}
use Rattle.recurrence.specs.declared.parts.Few.{Few}

abbrev pub entries : {X : Type 0} → Few X → List X
entries few = take few.len few.items

-- the part is there
abbrev pub given : {X : Type 0} → Few X → Bool
given few = not (few.len == 0)

-- no entries
abbrev pub none : {X : Type 0} → X → Few X
none x = record { items = replicate 12 x; len = 0 }
