-- The days that a walk has yet to give.
use Rattle.std.specs.Prelude.{ℕ, List}
use Rattle.source.specs.declared.walks.Walk.{Walk}
use Rattle.source.specs.Days.{since}

module _ {S : Type 0} (days : S → List ℕ) where
  abbrev pub days_left : Walk S → List ℕ
  days_left w = since w.next (days w.source.now)
