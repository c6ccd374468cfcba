-- Split: the plan cut in two, and the tail put at a new UID.
use Rattle.std.proofs.Common.{◌≡◌, ℕ, Bool, true, false, ltb, leb, ◌⊎◌, List, ◌∷◌, Some, None, sym, refl, ap, ◌∙◌, inl, inr, arith}
use Rattle.std.proofs.lemmas.Bool.Decides.{nat_tests}
use Rattle.series.specs.Plans.{Plan, Occurrence, on}
use Rattle.history.specs.Occurrences.{carrying}
use Rattle.history.specs.Splits.{Split, split_by}
use Rattle.history.specs.SplitPuts.{head_plan, tail_plan, split_puts}
use Rattle.history.specs.Items.{Item, split, edits}
use Rattle.history.specs.States.{Map, put, puts}
use Rattle.history.specs.Explains.{In, Holds, Agree}
use Rattle.history.proofs.Members.{mem_kept, kept_mem}
use Rattle.history.proofs.Maps.{own_uid, decide, put_same, put_other}
use Rattle.history.proofs.Steps.{Was, Moves, Renames, There, agree_more, was_there, in_at, at_in}
use Rattle.history.proofs.InPlace.{asks_first}

tail_here : (e : Split) (p : Plan) (x : ℕ) → leb e.day x ≡ true → split_by e (on e.uid p x) ≡ on e.new (tail_plan e p) x
tail_here e p x h = let s = own_uid e.uid in grind (arith, nat_tests)

head_here : (e : Split) (p : Plan) (x : ℕ) → ltb x e.day ≡ true → split_by e (on e.uid p x) ≡ on e.uid (head_plan e p) x
head_here e p x h = let s = own_uid e.uid in grind (arith, nat_tests)

elsewhere : (e : Split) (o : Occurrence) → ¬ (e.uid ≡ o.uid) → split_by e o ≡ o
elsewhere e o n = asks_first e.uid (leb e.day o.day) o (carrying e.new e.clock e.duration e.text o) n

module _ (e : Split) (f : Map) (p : Plan) (held : f e.uid ≡ Some p) (free : f e.new ≡ None) where
  abbrev left : Map
  left = put e.uid (Some (head_plan e p)) f

  abbrev g : Map
  g = put e.new (Some (tail_plan e p)) left

  apart : ¬ (e.new ≡ e.uid)
  apart q = cc

  at_new : g e.new ≡ Some (tail_plan e p)
  at_new = put_same e.new (Some (tail_plan e p)) left e.new refl

  at_old : g e.uid ≡ Some (head_plan e p)
  at_old = put_other e.new (Some (tail_plan e p)) left e.uid apart ∙ put_same e.uid (Some (head_plan e p)) f e.uid refl

  data Where (w : List ℕ) : Type 0 where
    new : e.new ≡ w → Where w
    old : e.uid ≡ w → Where w
    other : ¬ (e.uid ≡ w) → g w ≡ f w → Where w

  where_is : (w : List ℕ) → Where w
  where_is w = elim (decide e.new w) [ inl q ↦ new q | inr k ↦ elim (decide e.uid w) [ inl q ↦ old q | inr l ↦ other l (put_other e.new (Some (tail_plan e p)) left w k ∙ put_other e.uid (Some (head_plan e p)) f w l) ] ]

  moves : Moves (edits (split e)) f g
  moves o = (λ h. inr (forth h (where_is h.uid)), λ m. elim m [ inl z ↦ absurd z | inr r ↦ back r (where_is r.1.uid) ])
    where
      forth : (h : In g o) → Where h.uid → Was (edits (split e)) f o
      forth h (new q) =
          let t = in_at g o h e.new (tail_plan e p) q at_new in
          let k = kept_mem (λ x. leb e.day x) p.days t.among in
          (on e.uid p t.day, at_in f (on e.uid p t.day) e.uid p held (record { day = t.day; among = k.0; is = refl }), t.is ∙ sym (tail_here e p t.day k.1))
      forth h (old q) =
          let t = in_at g o h e.uid (head_plan e p) q at_old in
          let k = kept_mem (λ x. ltb x e.day) p.days t.among in
          (on e.uid p t.day, at_in f (on e.uid p t.day) e.uid p held (record { day = t.day; among = k.0; is = refl }), t.is ∙ sym (head_here e p t.day k.1))
      forth h (other k q) = (o, was_there g f o o h (sym q) refl, sym (elsewhere e o (λ s. k (s ∙ ap (λ x. x.uid) h.is))))

      cut : (r : Was (edits (split e)) f o) → There r.0 e.uid p → In g o
      cut r t = go (leb e.day t.day) refl
        where
          go : (b : Bool) → leb e.day t.day ≡ b → In g o
          go true y = at_in g o e.new (tail_plan e p) at_new (record { day = t.day; among = mem_kept (λ x. leb e.day x) p.days t.among y; is = r.2 ∙ ap (split_by e) t.is ∙ tail_here e p t.day y })
          go false y =
              let z : ltb t.day e.day ≡ true = grind (arith, nat_tests) in
              at_in g o e.uid (head_plan e p) at_old (record { day = t.day; among = mem_kept (λ x. ltb x e.day) p.days t.among z; is = r.2 ∙ ap (split_by e) t.is ∙ head_here e p t.day z })

      back : (r : Was (edits (split e)) f o) → Where r.1.uid → In g o
      back r (new q) = let h = r.1 in cc
      back r (old q) = cut r (in_at f r.0 r.1 e.uid p q held)
      back r (other k q) = let h = r.1 in was_there f g o r.0 h q (r.2 ∙ elsewhere e r.0 (λ s. k (s ∙ ap (λ x. x.uid) h.is)))

  renames : Renames (edits (split e)) f g
  renames w = (λ h. forth h (where_is w), λ m. back m (where_is w))
    where
      forth : Holds g w → Where w → ((w ≡ e.new) ⊎ ⊥) ⊎ Holds f w
      forth h (new q) = inl (inl (sym q))
      forth h (old q) = inr (p, ap f (sym q) ∙ held)
      forth h (other k q) = inr (h.0, sym q ∙ h.1)

      back : ((w ≡ e.new) ⊎ ⊥) ⊎ Holds f w → Where w → Holds g w
      back m (new q) = (tail_plan e p, ap g (sym q) ∙ at_new)
      back m (old q) = (head_plan e p, ap g (sym q) ∙ at_old)
      back (inl (inl q)) (other k s) = (tail_plan e p, ap g q ∙ at_new)
      back (inl (inr z)) (other k s) = absurd z
      back (inr h) (other k q) = (h.0, q ∙ h.1)

  pub split_step : (items : List Item) → Agree items f → Agree (edits (split e) ∷ items) (puts (split_puts e p) f)
  split_step items a = agree_more (edits (split e)) items f g moves renames a
