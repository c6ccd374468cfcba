-- The octets of a text, of a UID and of a stamp.
use Rattle.std.specs.Prelude.{ℕ, List, Some, None, Option}
use Rattle.bounded.specs.Held.{held}
use Rattle.series.specs.Octets.{text_limit, uid_limit, text_octet, uid_octet}
use Rattle.series.specs.declared.stamps.Stamp.{Stamp}
use Rattle.series.specs.declared.alphabets.TextOctets.{TextOctets}
use Rattle.series.specs.declared.alphabets.UidOctets.{UidOctets}
use Rattle.series.specs.declared.labels.Label.{Label}

abbrev pub Text : Type 0
Text = Label TextOctets text_limit (record { holds = text_octet })

abbrev pub Uid : Type 0
Uid = Label UidOctets uid_limit (record { holds = uid_octet })

abbrev pub text_octets : Text → List ℕ
text_octets t = held t.octets

abbrev pub uid_octets : Uid → List ℕ
uid_octets u = held u.octets

abbrev pub stamp_octets : Stamp → List ℕ
stamp_octets s = s.octets

-- the octets of a text of its own, or else of the text of all
abbrev pub own_or : Option Text → Text → List ℕ
own_or None t = text_octets t
own_or (Some own) t = text_octets own
