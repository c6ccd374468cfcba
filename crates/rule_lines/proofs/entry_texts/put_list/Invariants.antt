use Rattle.std.proofs.Common.{◌≡◌, take}
use Rattle.page.specs.Pages.{Puts, Stays}
use Rattle.rule_lines.specs.Writing.{list_text}
use Rattle.rule_lines.proofs.Listing.{mark_at}
use Rattle.rule_lines.proofs.entry_texts.put_list.Given as goal

abbrev pub invariant-loop-entry : goal.invariant-loop-entry
invariant-loop-entry g l = record {
  puts : Puts (list_text l.name g.T.Written.text (take l.entry-index l.list)) l.initial.page l.page;
  stays : Stays l.initial.page l.page;
  mark : l.mark ≡ mark_at l.name l.entry-index;
}
