-- The octets of the line that says what was printed.
use Rattle.std.specs.Prelude.{ℕ, List, [], ◌∷◌, ◌++◌, codes, decimal}
use Rattle.calendar.specs.declared.date.Date.{Date}
use Rattle.page.specs.Lines.{date_text}

-- its words around a count and two dates
unfoldable pub report_text : List ℕ → List ℕ → List ℕ → List ℕ
report_text count first last = codes "printed " ++ (count ++ (codes " lines from " ++ (first ++ (codes " to " ++ (last ++ (10 ∷ []))))))

-- printed 3 lines from 20240101 to 20240204
abbrev pub summary_text : ℕ → Date → Date → List ℕ
summary_text n first last = report_text (decimal n) (date_text first) (date_text last)
