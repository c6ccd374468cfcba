-- The octets of dates, clocks and agenda lines.
use Rattle.std.specs.Prelude.{ℕ, ◌+◌, ◌/◌, ◌%◌, List, [], ◌∷◌, ◌++◌, decimal}
use Rattle.calendar.specs.declared.date.Date.{Date}

-- the last two digits of a number, with leading zeros
abbrev pub two : ℕ → List ℕ
two n = (48 + n / 10 % 10) ∷ (48 + n % 10) ∷ []

-- its last four
abbrev pub four : ℕ → List ℕ
four n = (48 + n / 1000 % 10) ∷ (48 + n / 100 % 10) ∷ two n

-- yyyymmdd
unfoldable pub date_text : Date → List ℕ
date_text t = four t.year ++ (two t.month ++ two t.day)

-- hhmm
unfoldable pub clock_text : ℕ → List ℕ
clock_text c = two (c / 60) ++ two (c % 60)

-- five fields, parted by commas and ended by the octet 10
unfoldable pub fields_text : List ℕ → List ℕ → List ℕ → List ℕ → List ℕ → List ℕ
fields_text day minute duration uid text = day ++ (44 ∷ (minute ++ (44 ∷ (duration ++ (44 ∷ (uid ++ (44 ∷ (text ++ (10 ∷ [])))))))))

-- yyyymmdd,hhmm,duration,UID,text
abbrev pub line_text : Date → ℕ → ℕ → List ℕ → List ℕ → List ℕ
line_text date clock duration uid text = fields_text (date_text date) (clock_text clock) (decimal duration) uid text
