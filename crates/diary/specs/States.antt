-- The state of a diary, said by plans, and what an accepted enter makes of it.
use Rattle.std.specs.Prelude.{◌≡◌, ℕ, List, ◌∷◌, take, None, Option, Ok, Err, Result}
use Rattle.refusal.specs.declared.Refusal.{Refusal}
use Rattle.refusal.specs.Numbers.{number}
use Rattle.history.specs.Histories.{Answer, done, printed, refused}
use Rattle.history.specs.States.{State}
use Rattle.merge.specs.Printed.{plans_of}
use Rattle.store.specs.declared.pairs.Pair.{Pair}
use Rattle.store.specs.Pairs.{placed}
use Rattle.undo.specs.declared.logs.UndoLog.{UndoLog}
use Rattle.undo.specs.declared.records.UndoRecord.TheVariants.{One}
use Rattle.undo.specs.Logs.{records_in, records_of}
use Rattle.diary.specs.declared.drafts.Draft.{Draft}
use Rattle.diary.specs.declared.entries.Entry.{Entry}
use Rattle.diary.specs.Drafts.{numbered}
use Rattle.diary.specs.Entries.{PairOf}

-- what a call answers to the history
abbrev pub answer_of : {X : Type 0} → Result X Refusal → Answer
answer_of (Ok x) = done
answer_of (Err e) = refused (number e)

-- what an agenda answers, with the octets that it added to the page
abbrev pub printed_as : Result ℕ Refusal → List ℕ → Answer
printed_as (Ok n) octets = printed n octets
printed_as (Err e) octets = refused (number e)

module _ {S : Type 0} (days : S → List ℕ) where
  abbrev pub state_of : List (Pair S) → UndoLog S → List (Option Draft) → State
  state_of pairs log slots = record { plans = plans_of days pairs; undo = records_of days log; drafts = numbered 1 slots }

module _ {S : Type 0} where
  -- an entry was accepted: its pair is in the store, and the undo log remembers that the UID had none
  pub record Entered (uid : List ℕ) (e : Entry S) (old new : List (Pair S)) (before after : UndoLog S) : Type 0 where
    pub pair : Pair S
    pub made : PairOf uid e pair
    pub pairs : new ≡ placed pair old
    pub records : records_in after ≡ take 16 (One (record { uid = pair.uid; series = None }) ∷ records_in before)
