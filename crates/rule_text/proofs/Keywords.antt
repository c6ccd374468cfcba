-- Texts that were compared octet by octet.
use Rattle.std.proofs.Common.{◌≡◌, ℕ, List, length, sym, ap}
use Rattle.std.proofs.lemmas.Slice.Eq.{HasBytesAt, text_from_reads}

-- what a text means that has the length and the octets of another
pub means : {X : Type 0} (f : List ℕ → X) (s p : List ℕ) → length s ≡ length p → HasBytesAt s 0 p → f p ≡ f s
means f s p n h = ap f (sym (text_from_reads s p n h))
