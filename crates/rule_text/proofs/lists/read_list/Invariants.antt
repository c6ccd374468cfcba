use Rattle.std.proofs.Common.{◌≡◌, ◌+◌, ◌≤◌, length}
use Rattle.rule_text.specs.Fields.{fields_left}
use Rattle.rule_text.specs.Lists.{fields_at, entries_named}
use Rattle.rule_text.proofs.lists.read_list.Given as goal

abbrev pub invariant-loop-field : goal.invariant-loop-field
invariant-loop-field g l = record {
  entries : entries_named g.T.Entry.named (fields_at 44 l.octets) l.initial.few ≡ entries_named g.T.Entry.named (fields_left l.field-iterator) l.few;
  number : l.few.len + length (fields_left l.field-iterator) ≤ length l.octets + 1;
}
