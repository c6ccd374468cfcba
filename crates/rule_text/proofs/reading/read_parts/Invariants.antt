use Rattle.std.proofs.Common.{◌≡◌}
use Rattle.rule_text.specs.Fields.{fields_left}
use Rattle.rule_text.specs.Lists.{fields_at}
use Rattle.rule_text.specs.Reading.{no_parts, parts_read}
use Rattle.rule_text.proofs.reading.read_parts.Given as goal

abbrev pub invariant-loop-field : goal.invariant-loop-field
invariant-loop-field l = parts_read (fields_at 59 l.octets) no_parts ≡ parts_read (fields_left l.field-iterator) l.parts
