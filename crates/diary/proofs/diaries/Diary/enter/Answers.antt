use Rattle.std.proofs.Common.{◌≡◌, ℕ, ◌≤◌, false, cond, ltb, ◌∷◌, take, None, sym, refl, ap, ◌∙◌, subst}
use Rattle.std.proofs.lemmas.Bool.{le-ltb}
use Rattle.refusal.specs.Numbers.{number}
use Rattle.std.proofs.lemmas.Result.{MatchResult-at_ok}
use Rattle.store.specs.Pairs.{key, held, placed, Full}
use Rattle.undo.specs.declared.records.UndoRecord.TheVariants.{One}
use Rattle.undo.specs.Logs.{records_in}
use Rattle.diary.specs.Entries.{state_refusal}
use Rattle.diary.specs.States.{Entered}
use Rattle.diary.proofs.Accepting.{accepted, accepted_free}
use Rattle.diary.proofs.Explaining.{entering_explained}
use Rattle.diary.proofs.diaries.Diary.enter.Goals as goal

pub returns : goal.returns
returns g c =
    let days = g.St.Source.Source.days in
    let store = c.args.self.now.store in
    let old = g.St.Store.pairs store in
    let new = g.St.Store.pairs c.put.new.self in
    let limit = g.St.Store.limit store in
    let slots = c.args.self.now.drafts.slots in
    let log = c.args.log.now in
    let uid = c.args.uid.now in
    let e = c.args.entry.now in
    let q = c.in_ok-pair.pair in
    let m = c.in_ok-pair.ensures.1 in
    let fits = c.in_ok-pair.ensures.0 in
    let long : ltb log.places 16 ≡ false = le-ltb log.places 16 (subst (λ (n : ℕ). 16 ≤ n) c.places.ensures c.if-places-lt-REMEMBERED.false) in
    let none : state_refusal days limit old slots (key q) q.series.repeats.source q.series.overrides ≡ None = c.in_ok-admit.ensures in
    let free : held uid old ≡ None = ap (λ u. held u old) (sym m.uid_is) ∙ accepted_free days limit old slots (key q) q.series.repeats.source q.series.overrides none in
    let entered : Entered uid e old new log c.remember.new.self = record {
      pair = q;
      made = m;
      pairs = MatchResult-at_ok (λ _. new ≡ placed q old) (λ r. Full limit q old new (number r)) c.unwrap.result c.unwrap.ensures c.put.ensures.cases;
      records = c.remember.ensures.records ∙ ap (λ b. cond b (records_in log) (take 16 (One (record { uid = q.uid; series = None }) ∷ records_in log))) long;
    } in
    record {
      cases = (accepted days limit old slots log.places uid e q long fits m none, entered);
      kept = (refl, refl, c.put.ensures.capacity, c.remember.ensures.places);
      explained = λ h ex. entering_explained days h uid e old new log c.remember.new.self slots (g.met.St.Store.ascending store) free entered ex;
    }
