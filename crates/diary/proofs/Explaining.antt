-- An accepted entry is explained by the history fed with it.
use Rattle.std.proofs.Common.{◌≡◌, ℕ, List, [], ◌∷◌, map, take, Some, None, Option, sym, refl, ap, ◌∙◌}
use Rattle.std.specs.Option.{option_map}
use Rattle.std.proofs.lemmas.List.{take-map}
use Rattle.series.specs.Plans.{plan_from, plan_of}
use Rattle.history.specs.Explains.{Explains}
use Rattle.history.specs.Histories.{History, enter, done, fed}
use Rattle.history.specs.States.{at, put, Record}
use Rattle.history.proofs.Explained.{entered_explained}
use Rattle.history.proofs.Placings.{at_placing}
use Rattle.store.specs.declared.pairs.Pair.{Pair}
use Rattle.store.specs.Pairs.{key, Ascends, held}
use Rattle.undo.specs.declared.logs.UndoLog.{UndoLog}
use Rattle.undo.specs.declared.records.UndoRecord.TheVariants.{One}
use Rattle.undo.specs.Logs.{records_in, record_of, records_of}
use Rattle.diary.specs.declared.drafts.Draft.{Draft}
use Rattle.diary.specs.declared.entries.Entry.{Entry}
use Rattle.diary.specs.Entries.{PairOf, entry_plan}
use Rattle.merge.specs.Printed.{plans_of}
use Rattle.diary.specs.States.{state_of, Entered}
use Rattle.diary.proofs.Planned.{at_plans, plans_placed, plans_ascend}

module _ {S : Type 0} (days : S → List ℕ) where
  pair_plan : (uid : List ℕ) (e : Entry S) (q : Pair S) → PairOf uid e q → plan_of days q.series ≡ entry_plan days e
  pair_plan uid e q m = λ j. plan_from days (m.source j) (m.clock j) (m.duration j) (m.text j) (m.overrides j)

  pub entering_explained : (h : History) (uid : List ℕ) (e : Entry S) (old new : List (Pair S)) (before after : UndoLog S) (slots : List (Option Draft))
      → Ascends old → held uid old ≡ None → Entered uid e old new before after → Explains h (state_of days old before slots) → Explains (fed h (enter uid (entry_plan days e)) done) (state_of days new after slots)
  entering_explained h uid e old new before after slots asc free en ex =
      let q = en.pair in
      let m = en.made in
      let is : plan_of days q.series ≡ entry_plan days e = pair_plan uid e q m in
      let one : record_of days (One (record { uid = q.uid; series = None })) ≡ (uid, None) ∷ [] = λ j. (m.uid_is j, None) ∷ [] in
      entered_explained h (state_of days old before slots) (state_of days new after slots) uid (entry_plan days e) ex
      (at_plans days uid old ∙ ap (option_map (plan_of days)) free)
      (λ w.
      ap (λ ps. at (plans_of days ps) w) en.pairs
      ∙ ap (λ pl. at pl w) (plans_placed days q old)
      ∙ at_placing (key q) (Some (plan_of days q.series)) (plans_of days old) (plans_ascend days old asc) w
      ∙ (λ j. put (m.uid_is j) (Some (is j)) (at (plans_of days old)) w))
      (ap (map (record_of days)) en.records
      ∙ sym (take-map (record_of days) 16 (One (record { uid = q.uid; series = None }) ∷ records_in before))
      ∙ ap (λ (r : Record). take 16 (r ∷ records_of days before)) one)
      refl
