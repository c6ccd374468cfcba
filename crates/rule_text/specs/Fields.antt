-- The fields of a text, taken one after the other.
use Rattle.std.specs.Prelude.{ℕ, List, [], None, Some, Option}
use Rattle.std.specs.Borrow.{Bor}
use Rattle.rule_text.specs.declared.fields.Fields.{Fields}
use Rattle.rule_text.specs.Lists.{fields_at}

-- the fields of what is left, if a text is
abbrev pub fields_of : ℕ → Option (Bor (List ℕ)) → List (List ℕ)
fields_of x None = []
fields_of x (Some b) = fields_at x b.now

abbrev pub fields_left : Fields → List (List ℕ)
fields_left f = fields_of f.mark f.rest
