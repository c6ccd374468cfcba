use Rattle.std.proofs.Common.{take}
use Rattle.std.specs.List.{flat_map}
use Rattle.page.specs.Pages.{Puts, Stays}
use Rattle.page.proofs.pages.Page.put_each.Given as goal

abbrev pub invariant-loop-piece : goal.invariant-loop-piece
invariant-loop-piece l = record { puts : Puts (flat_map (λ x. x.now) (take l.piece-index l.pieces)) l.initial.self l.self; stays : Stays l.initial.self l.self }
