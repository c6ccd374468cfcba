-- The text of a recurrence, and that it is read back.
use Rattle.std.specs.Prelude.{◌≡◌, ℕ, ◌-◌, ◌<◌, ◌≤◌, true, cond, List, [], ◌∷◌, ◌++◌, length, Some, None, Ok, codes, decimal, Option, ◌==◌}
use Rattle.std.specs.List.{flat_map}
use Rattle.calendar.specs.declared.date.Date.{Date}
use Rattle.calendar.specs.declared.weekdays.Weekday.{Weekday}
use Rattle.calendar.specs.declared.weekdays.Weekday.TheVariants.{Monday, Tuesday, Wednesday, Thursday, Friday, Saturday, Sunday}
use Rattle.calendar.specs.Dates.{date_at}
use Rattle.page.specs.Lines.{date_text, clock_text}
use Rattle.recurrence.specs.declared.parts.DayEntry.{DayEntry}
use Rattle.recurrence.specs.declared.parts.Few.{Few}
use Rattle.recurrence.specs.declared.parts.Frequency.{Frequency}
use Rattle.recurrence.specs.declared.parts.Frequency.TheVariants.{Daily, Weekly, Monthly, Yearly}
use Rattle.recurrence.specs.declared.parts.Ordinal.{Ordinal}
use Rattle.recurrence.specs.declared.parts.Ordinal.TheVariants.{FromStart, FromEnd}
use Rattle.recurrence.specs.declared.parts.Recurrence.{Recurrence}
use Rattle.recurrence.specs.Entries.{entries}
use Rattle.rule.specs.Refused.{in_bounds, list_of, refusal}
use Rattle.rule_text.specs.Reading.{recurrence_named}

-- ---- the entries of the lists

abbrev pub ordinal_text : Ordinal → List ℕ
ordinal_text (FromStart n) = decimal n
ordinal_text (FromEnd n) = 45 ∷ decimal n

-- of nothing, nothing
abbrev pub text_if : {X : Type 0} → (X → List ℕ) → Option X → List ℕ
text_if text None = []
text_if text (Some x) = text x

abbrev pub weekday_text : Weekday → List ℕ
weekday_text Monday = codes "MO"
weekday_text Tuesday = codes "TU"
weekday_text Wednesday = codes "WE"
weekday_text Thursday = codes "TH"
weekday_text Friday = codes "FR"
weekday_text Saturday = codes "SA"
weekday_text Sunday = codes "SU"

abbrev pub day_entry_text : DayEntry → List ℕ
day_entry_text e = text_if ordinal_text e.ordinal ++ weekday_text e.weekday

-- ---- the parts; each but the first begins with a semicolon, and is empty where it is not given

abbrev pub frequency_text : Frequency → List ℕ
frequency_text Daily = codes "FREQ=DAILY"
frequency_text Weekly = codes "FREQ=WEEKLY"
frequency_text Monthly = codes "FREQ=MONTHLY"
frequency_text Yearly = codes "FREQ=YEARLY"

abbrev pub interval_text : ℕ → List ℕ
interval_text n = cond (n == 1) [] (codes ";INTERVAL=" ++ decimal n)

abbrev pub week_start_text : Weekday → List ℕ
week_start_text Monday = []
week_start_text Tuesday = codes ";WKST=TU"
week_start_text Wednesday = codes ";WKST=WE"
week_start_text Thursday = codes ";WKST=TH"
week_start_text Friday = codes ";WKST=FR"
week_start_text Saturday = codes ";WKST=SA"
week_start_text Sunday = codes ";WKST=SU"

abbrev pub count_text : Option ℕ → List ℕ
count_text None = []
count_text (Some n) = codes ";COUNT=" ++ decimal n

-- the last day, at the clock
abbrev pub last_text : ℕ → Option Date → List ℕ
last_text clock None = []
last_text clock (Some t) = codes ";UNTIL=" ++ (date_text t ++ (84 ∷ (clock_text clock ++ codes "00")))

-- a last day past the calendar is not written
abbrev pub until_text : ℕ → Option ℕ → List ℕ
until_text clock None = []
until_text clock (Some d) = last_text clock (date_at (d - 1))

-- entries, parted by commas behind the name
abbrev pub list_text : {X : Type 0} → List ℕ → (X → List ℕ) → List X → List ℕ
list_text name text [] = []
list_text name text (x ∷ xs) = name ++ (text x ++ flat_map (λ y. 44 ∷ text y) xs)

-- ---- the recurrence

-- FREQ, INTERVAL, WKST
abbrev pub period_text : Recurrence → List ℕ
period_text r = frequency_text r.pattern.frequency ++ (interval_text r.pattern.interval ++ week_start_text r.pattern.week_start)

-- COUNT, UNTIL
abbrev pub end_text : ℕ → Recurrence → List ℕ
end_text clock r = count_text r.count ++ until_text clock r.until

-- BYMONTH, BYMONTHDAY, BYDAY
abbrev pub lists_text : Recurrence → List ℕ
lists_text r =
    list_text (codes ";BYMONTH=") decimal (entries r.pattern.months) ++
    (list_text (codes ";BYMONTHDAY=") ordinal_text (entries r.pattern.month_days) ++
    list_text (codes ";BYDAY=") day_entry_text (entries r.pattern.week_days))

unfoldable pub recurrence_text : ℕ → Recurrence → List ℕ
recurrence_text clock r = period_text r ++ (end_text clock r ++ lists_text r)

-- ---- what is written is read back

-- a last day of the calendar
abbrev pub last_known : Option ℕ → Type 0
last_known None = Unit {0}
last_known (Some d) = (1 ≤ d) × (d ≤ 109573)

-- a minute of the day, and a recurrence in bounds, whatever it starts at, its lists with their twelve items
pub record Writable (clock start : ℕ) (r : Recurrence) : Type 0 where
  pub minute : clock < 1440
  pub bounds : in_bounds start (Some r) ≡ true
  pub last : last_known r.until
  pub months : length r.pattern.months.items ≡ 12
  pub month_days : length r.pattern.month_days.items ≡ 12
  pub week_days : length r.pattern.week_days.items ≡ 12

-- the same entries
pub record SameFew {X : Type 0} (a b : Few X) : Type 0 where
  pub len : a.len ≡ b.len
  pub items : entries a ≡ entries b

-- the same parts; the items past the entries mean nothing
pub record SameParts (a b : Recurrence) : Type 0 where
  pub frequency : a.pattern.frequency ≡ b.pattern.frequency
  pub interval : a.pattern.interval ≡ b.pattern.interval
  pub week_start : a.pattern.week_start ≡ b.pattern.week_start
  pub count : a.count ≡ b.count
  pub until : a.until ≡ b.until
  pub months : SameFew a.pattern.months b.pattern.months
  pub month_days : SameFew a.pattern.month_days b.pattern.month_days
  pub week_days : SameFew a.pattern.week_days b.pattern.week_days

abbrev pub ReadsBack : Type 0
ReadsBack = (clock start : ℕ) (r : Recurrence) → Writable clock start r → (s : Recurrence) × (recurrence_named clock (recurrence_text clock r) ≡ Ok s) × SameParts s r

-- the same parts are refused for the same, and mean the same days
abbrev pub SameDays : Type 0
SameDays = (a b : Recurrence) → SameParts a b → (start : ℕ) → (refusal start (Some a) ≡ refusal start (Some b)) × (list_of start (Some a) ≡ list_of start (Some b))
