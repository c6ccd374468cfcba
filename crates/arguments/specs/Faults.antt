-- What is wrong with the arguments: each fault by its argument and its number.
use Rattle.std.specs.Prelude.{ℕ, Bool, true, cond, leb, List, [], length, Some, None, Ok, Err, Option, Result, nat_le, slice_index_or}
use Rattle.std.specs.Borrow.{Bor}
use Rattle.refusal.specs.declared.Refusal.{Refusal}
use Rattle.refusal.specs.Numbers.{number as number_of}
use Rattle.calendar.specs.declared.starts.Moment.{Moment}
use Rattle.notation.specs.Dates.{day_named, moment_named}
use Rattle.notation.specs.Digits.{number}
use Rattle.notation.specs.Intervals.{interval_named}
use Rattle.rule_text.specs.Reading.{recurrence_named, rule_refused}
use Rattle.series.specs.Octets.{is_text, is_uid}
use Rattle.source.specs.Intervals.{in_bounds}
use Rattle.arguments.specs.declared.faults.Argument.{Argument}
use Rattle.arguments.specs.declared.faults.Argument.TheVariants.{Uid, Interval, Start, Rule, Duration, Text, First, Last}
use Rattle.arguments.specs.declared.faults.Fault.{Fault}
use Rattle.arguments.specs.declared.faults.Fault.TheVariants.{Missing, Surplus, Refused}
use Rattle.arguments.specs.declared.timed.Shared.{Shared}

pub data Told : Type 0 where
  missing : Argument → Told
  surplus : Told
  refused : Argument → ℕ → Told

-- what a fault says
abbrev pub told : Fault → Told
told (Missing a) = missing a
told Surplus = surplus
told (Refused a e) = refused a (number_of e)

-- what a result says, if it is a fault
abbrev pub told_of : {X : Type 0} → Result X Fault → Option Told
told_of (Ok x) = None
told_of (Err f) = Some (told f)

-- the number of words: six, or seven with a start and a rule
abbrev pub count_fault : ℕ → Option Told
count_fault n =
    cond (nat_le n 0) (Some (missing Uid)) (
    cond (nat_le n 1) (Some (missing Interval)) (
    cond (nat_le n 2) (Some (missing Duration)) (
    cond (nat_le n 3) (Some (missing Text)) (
    cond (nat_le n 4) (Some (missing First)) (
    cond (nat_le n 5) (Some (missing Last)) (
    cond (nat_le n 7) None (Some surplus)))))))

-- out of bounds, unless a test holds
abbrev pub within : Argument → Bool → Option Told
within a b = cond b None (Some (refused a 8))

-- what a reading refuses; what it reads is tested
abbrev pub refused_by : {X : Type 0} → Argument → Result X Refusal → (X → Bool) → Option Told
refused_by a (Ok x) test = within a (test x)
refused_by a (Err e) test = Some (refused a (number_of e))

abbrev pub uid_fault : List ℕ → Option Told
uid_fault xs = within Uid (is_uid xs)

abbrev pub text_fault : List ℕ → Option Told
text_fault xs = within Text (is_text xs)

abbrev pub interval_fault : List ℕ → Option Told
interval_fault xs = refused_by Interval (interval_named xs) (λ s. in_bounds s.start.day s.step s.count)

abbrev pub duration_fault : List ℕ → Option Told
duration_fault xs = refused_by Duration (number xs) (λ n. leb n 1440)

abbrev pub day_fault : Argument → List ℕ → Option Told
day_fault a xs = refused_by a (day_named xs) (λ d. true)

-- 24 where two days are not in order
abbrev pub ordered : Result ℕ Refusal → Result ℕ Refusal → Option Told
ordered (Ok x) (Ok y) = cond (nat_le x y) None (Some (refused Last 24))
ordered (Ok x) (Err e) = None
ordered (Err e) r = None

-- the last day may not lie before the first
abbrev pub window_fault : List ℕ → List ℕ → Option Told
window_fault a b = ordered (day_named a) (day_named b)

-- the first fault decides
abbrev pub first_of : Option Told → Option Told → Option Told
first_of None o = o
first_of (Some f) o = Some f

abbrev pub start_fault : List ℕ → Option Told
start_fault xs = refused_by Start (moment_named xs) (λ m. true)

-- the number of a refusal, if there is one
abbrev pub refused_for : Argument → Option Refusal → Option Told
refused_for a None = None
refused_for a (Some e) = Some (refused a (number_of e))

abbrev pub rule_fault : Moment → List ℕ → Option Told
rule_fault m xs = refused_for Rule (rule_refused m.day (recurrence_named m.clock xs))

-- the rule, where the start is one
abbrev pub rule_at : Result Moment Refusal → List ℕ → Option Told
rule_at (Ok m) xs = rule_fault m xs
rule_at (Err e) xs = None

-- first the start's word, then the rule's
abbrev pub recurring_fault : List ℕ → List ℕ → Option Told
recurring_fault start rule = first_of (start_fault start) (rule_at (moment_named start) rule)

-- both days, and their order
abbrev pub days_fault : List ℕ → List ℕ → Option Told
days_fault first last = first_of (day_fault First first) (first_of (day_fault Last last) (window_fault first last))

-- what is wrong with the words behind the days' part
abbrev pub rest_fault : List ℕ → List ℕ → List ℕ → List ℕ → Option Told
rest_fault duration text first last = first_of (duration_fault duration) (first_of (text_fault text) (days_fault first last))

abbrev pub six_fault : List ℕ → List ℕ → List ℕ → List ℕ → List ℕ → List ℕ → Option Told
six_fault uid interval duration text first last = first_of (uid_fault uid) (first_of (interval_fault interval) (rest_fault duration text first last))

abbrev pub seven_fault : List ℕ → List ℕ → List ℕ → List ℕ → List ℕ → List ℕ → List ℕ → Option Told
seven_fault uid start rule duration text first last =
    first_of (uid_fault uid) (first_of (recurring_fault start rule) (rest_fault duration text first last))

-- the same where the words of the days say so much
abbrev pub job_fault : Shared → Option Told → Option Told
job_fault w timed = first_of (uid_fault w.uid.now) (first_of timed (rest_fault w.duration.now w.text.now w.first.now w.last.now))

-- the words of a command line by their places; past the last there is an empty one
abbrev pub word_at : List (Bor (List ℕ)) → ℕ → List ℕ
word_at ws i = (slice_index_or ws i (record { ref_ptr = (0, 0); now = [] })).now

-- what is wrong with a command line: first the number of its words
abbrev pub fault_of : List (Bor (List ℕ)) → Option Told
fault_of ws =
    first_of (count_fault (length ws))
    (cond (nat_le (length ws) 6) (six_fault (word_at ws 0) (word_at ws 1) (word_at ws 2) (word_at ws 3) (word_at ws 4) (word_at ws 5))
    (seven_fault (word_at ws 0) (word_at ws 1) (word_at ws 2) (word_at ws 3) (word_at ws 4) (word_at ws 5) (word_at ws 6)))
