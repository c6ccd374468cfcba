use Rattle.std.proofs.Common.{◌≡◌}
use Rattle.rule_text.specs.Fields.{fields_left}
use Rattle.rule_text.specs.Lists.{fields_at}
use Rattle.rule_text.specs.Reading.{no_parts, bad_field}
use Rattle.rule_text.proofs.reading.bad_field.Given as goal

abbrev pub invariant-loop-field : goal.invariant-loop-field
invariant-loop-field l = bad_field (fields_at 59 l.octets) no_parts ≡ bad_field (fields_left l.field-iterator) l.parts
