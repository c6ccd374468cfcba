-- A part that is there already is refused, whatever its value.
use Rattle.std.proofs.Common.{◌≡◌, ℕ, List, Option, Some, None, Err, true, is_some, refl}
use Rattle.std.proofs.lemmas.Bool.{false≢true}
use Rattle.refusal.specs.declared.Refusal.TheVariants.{BadPart}
use Rattle.rule_text.specs.declared.parts.Parts.{Parts}
use Rattle.rule_text.specs.declared.words.Part.{Part}
use Rattle.rule_text.specs.declared.words.Part.TheVariants.{Freq, Interval, WeekStart, Count, Until, Months, MonthDays, WeekDays}
use Rattle.rule_text.specs.Parts.{once, filled, there, with}

again : {X : Type 0} (set : Option X → Parts) (o r : Option X) → is_some o ≡ true → filled set (once o r) ≡ Err BadPart
again set (Some x) r e = refl
again set None r e = absurd (false≢true e)

pub there_refused : (p : Parts) (k : Part) (xs : List ℕ) → there p k ≡ true → with p k xs ≡ Err BadPart
there_refused p Freq xs e = again _ p.frequency _ e
there_refused p Interval xs e = again _ p.interval _ e
there_refused p WeekStart xs e = again _ p.week_start _ e
there_refused p Count xs e = again _ p.count _ e
there_refused p Until xs e = again _ p.until _ e
there_refused p Months xs e = again _ p.months _ e
there_refused p MonthDays xs e = again _ p.month_days _ e
there_refused p WeekDays xs e = again _ p.week_days _ e
