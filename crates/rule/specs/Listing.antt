-- The days that a listing has yet to give.
use Rattle.std.specs.Prelude.{ℕ, List}
use Rattle.rule.specs.declared.choice.Chosen.{Chosen}
use Rattle.rule.specs.Spans.{span}
use Rattle.rule.specs.Lists.{chooses}

abbrev pub chosen_left : Chosen → List ℕ
chosen_left l = span (chooses l.choice.now.pattern l.choice.now.start) l.next l.end
