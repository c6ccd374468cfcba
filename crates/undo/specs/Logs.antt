-- The records of an undo log, newest first, and what they say of plans.
use Rattle.std.specs.Prelude.{ℕ, List, [], ◌∷◌, map, Option}
use Rattle.std.specs.VecDeque.{deque_items}
use Rattle.std.specs.Option.{option_map}
use Rattle.series.specs.Plans.{Plan, plan_of}
use Rattle.series.specs.Values.{uid_octets}
use Rattle.history.specs.States.{Record}
use Rattle.undo.specs.declared.records.Former.{Former}
use Rattle.undo.specs.declared.records.UndoRecord.{UndoRecord}
use Rattle.undo.specs.declared.records.UndoRecord.TheVariants.{One, Two}
use Rattle.undo.specs.declared.logs.UndoLog.{UndoLog}

abbrev pub records_in : {S : Type 0} → UndoLog S → List (UndoRecord S)
records_in log = deque_items log.records

module _ {S : Type 0} (days : S → List ℕ) where
  abbrev pub former_plan : Former S → List ℕ × Option Plan
  former_plan f = (uid_octets f.uid, option_map (plan_of days) f.series)

  -- each UID with the plan that it had, or with none
  abbrev pub record_of : UndoRecord S → Record
  record_of (One f) = former_plan f ∷ []
  record_of (Two f g) = former_plan f ∷ former_plan g ∷ []

  abbrev pub records_of : UndoLog S → List Record
  records_of log = map record_of (records_in log)
