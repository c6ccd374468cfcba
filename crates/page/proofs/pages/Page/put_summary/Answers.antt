use Rattle.page.specs.Summaries.{report_text}
use Rattle.page.proofs.pages.Page.put_summary.Goals as goal

pub returns : goal.returns
unfolding report_text
returns c = rw (← c.format.ensures.text, ← c.as_bytes-count.ensures.value, ← c.date_octets-begin.ensures, ← c.date_octets-end.ensures) (record { stays = c.put_all.ensures.stays; cases = c.put_all.ensures.cases })
