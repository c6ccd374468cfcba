-- Lists of entries, parted by commas.
use Rattle.std.specs.Prelude.{ℕ, ◌+◌, cond, List, [], ◌∷◌, Some, None, Option, ◌==◌, nat_lt, slice_set}
use Rattle.recurrence.specs.declared.parts.Few.{Few}
use Rattle.recurrence.specs.Entries.{none}

-- one octet more at the front of the first field
abbrev pub extended : ℕ → List (List ℕ) → List (List ℕ)
extended y [] = (y ∷ []) ∷ []
extended y (f ∷ fs) = (y ∷ f) ∷ fs

-- the fields of a text that x parts
abbrev pub fields_at : ℕ → List ℕ → List (List ℕ)
fields_at x [] = [] ∷ []
fields_at x (y ∷ ys) = cond (y == x) ([] ∷ fields_at x ys) (extended y (fields_at x ys))

-- a list with one entry more; past the twelfth only their number grows
abbrev pub pushed : {X : Type 0} → Few X → X → Few X
pushed few x = record { items = cond (nat_lt few.len 12) (slice_set few.items few.len x) few.items; len = few.len + 1 }

-- what follows of a value, if there is one
abbrev pub if_some : {X Y : Type 0} → Option X → (X → Option Y) → Option Y
if_some None f = None
if_some (Some x) f = f x

-- the entries that fields name, behind those that there are; none where a field names none
abbrev pub entries_named : {X : Type 0} → (List ℕ → Option X) → List (List ℕ) → Few X → Option (Few X)
entries_named named [] few = Some few
entries_named named (f ∷ fs) few = if_some (named f) (λ x. entries_named named fs (pushed few x))

-- the list of a text, over items that mean nothing
abbrev pub few_named : {X : Type 0} → (List ℕ → Option X) → X → List ℕ → Option (Few X)
few_named named blank xs = entries_named named (fields_at 44 xs) (none blank)
