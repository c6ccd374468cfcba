-- The states that a history explains: the blank one, and after each change and each undo.
use Rattle.std.proofs.Common.{◌≡◌, ℕ, zero, suc, pred, min, Bool, cond, eqb, ◌⊎◌, ◌↔◌, List, [], ◌∷◌, length, take, Some, Option, sym, ap, ◌∙◌, subst, inl, inr, arith, length-take, eq-eqb, ne_eqb}
use mathlib.Core.Path.{fun_ext}
use Rattle.series.specs.Members.{Mem}
use Rattle.series.specs.Plans.{Plan, Occurrence}
use Rattle.history.specs.Items.{Edit, Item, enters, edits, read}
use Rattle.history.specs.Histories.{History, remembered, added_edit, less_newest}
use Rattle.history.specs.Agendas.{Lists, in_window}
use Rattle.history.specs.States.{Ascends, Map, at, puts, Record, priors, occurrences, Draft, State}
use Rattle.history.specs.Explains.{Agree, Stands, Explains}
use Rattle.history.specs.EditPuts.{edit_puts}
use Rattle.history.specs.StepLaws.{LawOfBlank, LawOfAgenda, LawOfChange, LawOfEnter, LawOfCommit, LawOfUndo, LawOfDrafts, LawOfCheck}
use Rattle.history.proofs.Maps.{back}
use Rattle.history.proofs.Placings.{occurrences_in}
use Rattle.history.proofs.OneLists.{agenda_like}
use Rattle.history.proofs.EnterSteps.{enter_step}
use Rattle.history.proofs.EditSteps.{edit_step}

agree_now : (items : List Item) (f : Map) (undo : List Record) → Stands items f undo → Agree items f
agree_now items f [] h = h
agree_now [] f (r ∷ undo) h = absurd h
agree_now (i ∷ items) f (r ∷ undo) h = h.0

-- what the undo log forgets at its far end is not asked for
forget : (k : ℕ) (items : List Item) (f : Map) (undo : List Record) → Stands items f undo → Stands items f (take k undo)
forget zero items f undo h = agree_now items f undo h
forget (suc k) items f [] h = h
forget (suc k) [] f (r ∷ undo) h = absurd h
forget (suc k) (i ∷ items) f (r ∷ undo) h = (h.0, forget k items (puts r f) undo h.1)

-- the items and the plans agree now
pub explains_now : (h : History) (st : State) → Explains h st → Agree h.items (at st.plans)
explains_now h st ex = agree_now h.items (at st.plans) st.undo ex.stands

pub change_explained : LawOfChange
change_explained i es h old new agrees ex ch =
    let f = at old.plans in
    let g = at new.plans in
    let is : g ≡ puts es f = fun_ext ch.plans in
    let now : Agree (i ∷ h.items) g = subst (Agree (i ∷ h.items)) (sym is) (agrees (explains_now h old ex)) in
    let undoing : puts (priors es f) g ≡ f = ap (puts (priors es f)) is ∙ back es f in
    let before : Stands h.items (puts (priors es f) g) old.undo = subst (λ k. Stands h.items k old.undo) (sym undoing) ex.stands in
    let count = ex.undos in
    let more : min remembered (suc h.undos) ≡ length (take remembered (priors es f ∷ old.undo)) = simp length-take (omega arith) in
    record {
      stands = subst (Stands (i ∷ h.items) g) (sym ch.undo) (forget remembered (i ∷ h.items) g (priors es f ∷ old.undo) (now, before));
      undos = more ∙ ap length (sym ch.undo);
      drafts = λ d m. ex.drafts d (ch.drafts d m);
    }

newest_gone : (items : List Item) (f : Map) (r : Record) (undo : List Record) → Stands items f (r ∷ undo) → Stands (less_newest items) (puts r f) undo
newest_gone [] f r undo h = absurd h
newest_gone (i ∷ items) f r undo h = h.1

pub undo_explained : LawOfUndo
undo_explained r h old new ex un =
    let f = at old.plans in
    let is : at new.plans ≡ puts r f = fun_ext un.plans in
    let stood : Stands h.items f (r ∷ new.undo) = subst (Stands h.items f) un.undo ex.stands in
    let count : h.undos ≡ suc (length new.undo) = ex.undos ∙ ap length un.undo in
    let fewer : pred h.undos ≡ length new.undo = omega arith in
    record {
      stands = subst (λ k. Stands (less_newest h.items) k new.undo) (sym is) (newest_gone h.items f r new.undo stood);
      undos = fewer;
      drafts = λ d m. ex.drafts d (un.drafts d m);
    }

pub entered_explained : LawOfEnter
entered_explained h old new u p ex free plans undos drafts =
    change_explained (enters u p) ((u, Some p) ∷ []) h old new (enter_step u p (at old.plans) free h.items) ex (record {
      plans = plans;
      undo = undos ∙ ap (λ (v : Option Plan). take remembered (((u, v) ∷ []) ∷ old.undo)) (sym free);
      drafts = λ d m. subst (Mem d) drafts m;
    })

pub committed_explained : LawOfCommit
committed_explained h old new n e p ex note held free ch =
    subst (λ (v : Option Edit). Explains (added_edit v h) new) (sym note)
    (change_explained (edits e) (edit_puts e p) h old new (edit_step e (at old.plans) p held free h.items) ex ch)

none : Agree [] (at [])
none = record { same = λ o. (λ m. absurd m, λ h. cc); uids = λ u. (λ m. absurd m, λ h. cc) }

pub blank_explained : LawOfBlank
blank_explained st plans undos drafts = record {
  stands = subst (λ (f : Map). Stands [] f st.undo) (ap at (sym plans)) (subst (Stands [] (at [])) (sym undos) none);
  undos = ap length (sym undos);
  drafts = λ d m. absurd (subst (Mem d) drafts m);
}

-- the same plans and undo records stand by the same items
stands_still : (items : List Item) (old new : State) → ((w : List ℕ) → at new.plans w ≡ at old.plans w) → new.undo ≡ old.undo → Stands items (at old.plans) old.undo → Stands items (at new.plans) new.undo
stands_still items old new plans undos h =
    let is : at new.plans ≡ at old.plans = fun_ext plans in
    subst (λ (f : Map). Stands items f new.undo) (sym is) (subst (Stands items (at old.plans)) (sym undos) h)

pub redrafted_explained : LawOfDrafts
redrafted_explained h old new ex re = record {
  stands = stands_still h.items old new re.plans re.undo ex.stands;
  undos = ex.undos ∙ ap length (sym re.undo);
  drafts = λ d m e q. elim (re.drafts d m) [ inl n ↦ cc | inr k ↦ ex.drafts d k e q ];
}

pub checked_explained : LawOfCheck
checked_explained h old new n e ex ch = record {
  stands = stands_still h.items old new ch.plans ch.undo ex.stands;
  undos = ex.undos ∙ ap length (sym ch.undo);
  drafts = λ d m x q. go d x q (ch.drafts d m);
}
  where
    go : (d : Draft) (x : Edit) → d.edit ≡ Some x → ((d.number ≡ n) × (d.edit ≡ Some e)) ⊎ ((¬ (d.number ≡ n)) × Mem d old.drafts) → cond (eqb d.number n) (Some e) (h.notes d.number) ≡ Some x
    go d x q (inl k) = ap (λ b. cond b (Some e) (h.notes d.number)) (eq-eqb d.number n k.0) ∙ sym k.1 ∙ q
    go d x q (inr k) = ap (λ b. cond b (Some e) (h.notes d.number)) (ne_eqb d.number n k.0) ∙ ex.drafts d k.1 x q

-- the items and the plans have the same occurrences
pub same_occurrences : (h : History) (st : State) → Explains h st → Ascends st.plans → (o : Occurrence) → Mem o (occurrences st.plans) ↔ Mem o (read h.items)
same_occurrences h st ex asc o =
    let a = explains_now h st ex in
    let is = occurrences_in st.plans asc o in
    (λ m. (a.same o).1 (is.0 m), λ m. is.1 ((a.same o).0 m))

-- whatever is listed of the plans is listed of the history, and back
pub listed_explained : (h : History) (st : State) → Explains h st → Ascends st.plans → (chosen : Occurrence → Bool) (l : List Occurrence) → Lists chosen (occurrences st.plans) l ↔ Lists chosen (read h.items) l
listed_explained h st ex asc chosen l =
    let same = same_occurrences h st ex asc in
    (agenda_like chosen (occurrences st.plans) (read h.items) l same, agenda_like chosen (read h.items) (occurrences st.plans) l (λ o. ((same o).1, (same o).0)))

pub agenda_explained : LawOfAgenda
agenda_explained h st ex asc from end l = listed_explained h st ex asc (in_window from end) l
