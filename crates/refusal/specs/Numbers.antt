-- The number of each refusal.
use Rattle.std.specs.Prelude.{ℕ}
use Rattle.refusal.specs.declared.Refusal.{Refusal}
use Rattle.refusal.specs.declared.Refusal.TheVariants.{Malformed, OutOfBounds, BadPart, RuleConflict, StartNotPicked, UidPresent, UidHeld, StoreFull, OffSource, PageFull, BadWindow, EmptySource, ShortUndoLog}

abbrev pub number : Refusal → ℕ
number Malformed = 7
number OutOfBounds = 8
number BadPart = 9
number RuleConflict = 10
number StartNotPicked = 11
number UidPresent = 12
number UidHeld = 14
number StoreFull = 15
number OffSource = 17
number PageFull = 23
number BadWindow = 24
number EmptySource = 25
number ShortUndoLog = 26
