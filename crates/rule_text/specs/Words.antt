-- The keywords of a rule.
use Rattle.std.specs.Prelude.{ℕ, cond, List, Some, None, codes, Option}
use Rattle.std.specs.Str.{bytes_eq}
use Rattle.calendar.specs.declared.weekdays.Weekday.{Weekday}
use Rattle.calendar.specs.declared.weekdays.Weekday.TheVariants.{Monday, Tuesday, Wednesday, Thursday, Friday, Saturday, Sunday}
use Rattle.recurrence.specs.declared.parts.Frequency.{Frequency}
use Rattle.recurrence.specs.declared.parts.Frequency.TheVariants.{Daily, Weekly, Monthly, Yearly}
use Rattle.rule_text.specs.declared.words.Part.{Part}
use Rattle.rule_text.specs.declared.words.Part.TheVariants.{Freq, Interval, WeekStart, Count, Until, Months, MonthDays, WeekDays}

abbrev pub frequency_named : List ℕ → Option Frequency
frequency_named xs =
    cond (bytes_eq xs (codes "DAILY")) (Some Daily) (
    cond (bytes_eq xs (codes "WEEKLY")) (Some Weekly) (
    cond (bytes_eq xs (codes "MONTHLY")) (Some Monthly) (
    cond (bytes_eq xs (codes "YEARLY")) (Some Yearly) None)))

abbrev pub weekday_named : List ℕ → Option Weekday
weekday_named xs =
    cond (bytes_eq xs (codes "MO")) (Some Monday) (
    cond (bytes_eq xs (codes "TU")) (Some Tuesday) (
    cond (bytes_eq xs (codes "WE")) (Some Wednesday) (
    cond (bytes_eq xs (codes "TH")) (Some Thursday) (
    cond (bytes_eq xs (codes "FR")) (Some Friday) (
    cond (bytes_eq xs (codes "SA")) (Some Saturday) (
    cond (bytes_eq xs (codes "SU")) (Some Sunday) None))))))

abbrev pub part_named : List ℕ → Option Part
part_named xs =
    cond (bytes_eq xs (codes "FREQ")) (Some Freq) (
    cond (bytes_eq xs (codes "INTERVAL")) (Some Interval) (
    cond (bytes_eq xs (codes "WKST")) (Some WeekStart) (
    cond (bytes_eq xs (codes "COUNT")) (Some Count) (
    cond (bytes_eq xs (codes "UNTIL")) (Some Until) (
    cond (bytes_eq xs (codes "BYMONTH")) (Some Months) (
    cond (bytes_eq xs (codes "BYMONTHDAY")) (Some MonthDays) (
    cond (bytes_eq xs (codes "BYDAY")) (Some WeekDays) None)))))))
