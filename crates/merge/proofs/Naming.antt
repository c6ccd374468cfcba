-- From places to UIDs: the nodes that the merge gives are the agenda.
use Rattle.std.proofs.Common.{◌≡◌, ℕ, zero, suc, ◌<◌, ◌≤◌, true, ◌&&◌, ltb, leb, List, [], ◌∷◌, map, length, Some, None, Option, sym, refl, ap, ◌∙◌, subst, inl, inr, ⊎_elim, arith}
use Rattle.std.specs.List.{flat_map, AllByRecursion}
use Rattle.std.proofs.lemmas.Bool.{cases_lt, and_from, and_parts, le-leb, lt-ltb, leb-true, ltb-true}
use Rattle.history.specs.Agendas.{Before, in_window, IsAgenda}
use Rattle.history.specs.States.{occurrences}
use Rattle.history.proofs.Members.{mem_append, mem_append_left, mem_append_right, mem_map, map_mem}
use Rattle.history.proofs.OneLists.{before_asym}
use Rattle.series.specs.Members.{Mem, Ordered}
use Rattle.series.specs.Order.{Ahead}
use Rattle.series.specs.Plans.{Occurrence, on, occurrences_of, plan_of, live, shown_start}
use Rattle.store.specs.declared.pairs.Pair.{Pair}
use Rattle.store.specs.Pairs.{key, pair_at, Ascends}
use Rattle.tournament.specs.declared.nodes.Node.{Node}
use Rattle.merge.specs.Places.{ShowsBy, ShowsAt, occurrence_by, named}
use Rattle.merge.specs.Printed.{plans_of}
use Rattle.merge.proofs.OrderedLists.{ordered_map, heavier}
use Rattle.merge.proofs.Merging.{Sooner, Line}

module _ {S : Type 0} (days : S → List ℕ) where
  -- what a shown occurrence is by its pair
  abbrev uid_by : Option (Pair S) → List ℕ
  uid_by None = []
  uid_by (Some q) = key q

  uid_is_by : (o : Option (Pair S)) (d : ℕ) → (occurrence_by days o d).uid ≡ uid_by o
  uid_is_by None d = refl
  uid_is_by (Some q) d = refl

  day_by : (o : Option (Pair S)) (d : ℕ) → (occurrence_by days o d).day ≡ d
  day_by None d = refl
  day_by (Some q) d = refl

  pub starts_by : (o : Option (Pair S)) (s d : ℕ) → ShowsBy days o s d → shown_start (occurrence_by days o d) ≡ s
  starts_by None s d h = absurd h
  starts_by (Some q) s d h = sym h.starts

  lives_by : (o : Option (Pair S)) (s d : ℕ) → ShowsBy days o s d → live (occurrence_by days o d) ≡ true
  lives_by None s d h = absurd h
  lives_by (Some q) s d h = h.alive

  abbrev DayBy : Option (Pair S) → ℕ → Type 0
  DayBy None d = ⊥
  DayBy (Some q) d = Mem d (days q.series.repeats.source)

  shows_by : (o : Option (Pair S)) (d : ℕ) → DayBy o d → live (occurrence_by days o d) ≡ true → ShowsBy days o (shown_start (occurrence_by days o d)) d
  shows_by None d m l = absurd m
  shows_by (Some q) d m l = record { among = m; alive = l; starts = refl }

  -- an occurrence of the store has its place and day
  record Placed (ps : List (Pair S)) (o : Occurrence) : Type 0 where
    pub place : ℕ
    pub day : ℕ
    pub under : place < length ps
    pub among : DayBy (pair_at ps place) day
    pub is : o ≡ occurrence_by days (pair_at ps place) day

  in_place : (ps : List (Pair S)) (o : Occurrence) → Mem o (occurrences (plans_of days ps)) → Placed ps o
  in_place [] o h = absurd h
  in_place (p ∷ ps) o h = elim (mem_append o (occurrences_of (key p) (plan_of days p.series)) (occurrences (plans_of days ps)) h) [
    | inl m ↦ (let r = map_mem (on (key p) (plan_of days p.series)) (days p.series.repeats.source) m in record { place = zero; day = r.0; under = omega arith; among = r.1; is = r.2 })
    | inr m ↦ (let r = in_place ps o m in record { place = suc r.place; day = r.day; under = (let k : r.place < length ps = r.under in omega arith); among = r.among; is = r.is })
  ]

  place_in : (ps : List (Pair S)) (p s d : ℕ) → ShowsAt days ps p s d → Mem (occurrence_by days (pair_at ps p) d) (occurrences (plans_of days ps))
  place_in [] p s d h = absurd h
  place_in (q ∷ ps) zero s d h = mem_append_left _ (occurrences_of (key q) (plan_of days q.series)) (occurrences (plans_of days ps)) (mem_map (on (key q) (plan_of days q.series)) _ (days q.series.repeats.source) h.among refl)
  place_in (q ∷ ps) (suc p) s d h = mem_append_right _ (occurrences_of (key q) (plan_of days q.series)) (occurrences (plans_of days ps)) (place_in ps p s d h)

  -- the UIDs ascend by place
  all_at : (u : List ℕ) (ps : List (Pair S)) (j : ℕ) → j < length ps → AllByRecursion (λ q. Ahead u (key q)) ps → Ahead u (uid_by (pair_at ps j))
  all_at u [] j l a = let z : ⊥ = omega arith in absurd z
  all_at u (p ∷ ps) zero l a = a.0
  all_at u (p ∷ ps) (suc j) l a = all_at u ps j (omega arith) a.1

  rising : (ps : List (Pair S)) → Ascends ps → (i j : ℕ) → i < j → j < length ps → Ahead (uid_by (pair_at ps i)) (uid_by (pair_at ps j))
  rising [] a i j h l = let z : ⊥ = omega arith in absurd z
  rising (p ∷ ps) a i zero h l = let z : ⊥ = omega arith in absurd z
  rising (p ∷ ps) a zero (suc j) h l = all_at (key p) ps j (omega arith) a.0
  rising (p ∷ ps) a (suc i) (suc j) h l = rising ps a.1 i j (omega arith) (omega arith)

  module _ (ps : List (Pair S)) (near : (p s d : ℕ) → ShowsAt days ps p s d → d ≤ 109572) (small : length ps < 18446744073709551616) (ascends : Ascends ps) (from end : ℕ) where
    abbrev pub Lined : Node → Type 0
    Lined x = Line (ShowsAt days ps) from end (length ps) x

    start_is : (x : Node) → Lined x → shown_start (named days ps x) ≡ x.start
    start_is x v = starts_by (pair_at ps x.place) x.start x.day v.held

    before : (x y : Node) → Lined x → Lined y → Sooner x y → Before (named days ps x) (named days ps y)
    before x y v w a =
        let sx = start_is x v in
        let sy = start_is y w in
        let ux = v.under in
        let uy = w.under in
        let dx : x.day ≤ 109572 = near x.place x.start x.day v.held in
        let dy : y.day ≤ 109572 = near y.place y.start y.day w.held in
        let kx = uid_is_by (pair_at ps x.place) x.day in
        let ky = uid_is_by (pair_at ps y.place) y.day in
        let ex = day_by (pair_at ps x.place) x.day in
        let ey = day_by (pair_at ps y.place) y.day in
        ⊎_elim
        (λ l. inl (omega arith))
        (λ g. inr (
          sx ∙ (let s : x.start ≡ y.start = omega arith in s) ∙ sym sy,
          ⊎_elim
              (λ l. inl (subst (λ (u : List ℕ). Ahead u (named days ps y).uid) (sym kx) (subst (λ (u : List ℕ). Ahead (uid_by (pair_at ps x.place)) u) (sym ky) (rising ps ascends x.place y.place l uy))))
              (λ k. inr (kx ∙ ap (λ p. uid_by (pair_at ps p)) (let q : x.place ≡ y.place = omega arith in q) ∙ sym ky, omega arith))
              (cases_lt x.place y.place),
        ))
        (cases_lt x.start y.start)

    in_order : (l : List Node) → Ordered Sooner l → ((x : Node) → Mem x l → Lined x) → Ordered Before (map (named days ps) l)
    in_order l o lines = ordered_map (named days ps) Sooner Before l (λ x y m n a. before x y (lines x m) (lines y n) a) o

    -- the occurrence of a line is live, and starts in the window
    chosen : (x : Node) → Lined x → in_window from end (named days ps x) ≡ true
    chosen x v =
        let t = named days ps x in
        let e = start_is x v in
        let a = v.since in
        let b = v.until in
        and_from (live t) (leb from (shown_start t) && ltb (shown_start t) end) (lives_by (pair_at ps x.place) x.start x.day v.held)
        (and_from (leb from (shown_start t)) (ltb (shown_start t) end) (le-leb from (shown_start t) (omega arith)) (lt-ltb (shown_start t) end (omega arith)))

    among : (x : Node) → Lined x → Mem (named days ps x) (occurrences (plans_of days ps)) × (in_window from end (named days ps x) ≡ true)
    among x v = (place_in ps x.place x.start x.day v.held, chosen x v)

    -- a chosen occurrence is that of a line
    line_of : (l : List Node) → ((x : Node) → Lined x → Mem x l) → (o : Occurrence) → Placed ps o → in_window from end o ≡ true → Mem o (map (named days ps) l)
    line_of l all o p w =
        let t : Occurrence = occurrence_by days (pair_at ps p.place) p.day in
        let c : in_window from end t ≡ true = subst (λ (q : Occurrence). in_window from end q ≡ true) p.is w in
        let a = and_parts (live t) (leb from (shown_start t) && ltb (shown_start t) end) c in
        let b = and_parts (leb from (shown_start t)) (ltb (shown_start t) end) a.1 in
        let x : Node = record { start = shown_start t; place = p.place; day = p.day } in
        mem_map (named days ps) o l (all x (record {
          under = p.under;
          held = shows_by (pair_at ps p.place) p.day p.among a.0;
          since = leb-true from (shown_start t) b.0;
          until = ltb-true (shown_start t) end b.1;
        })) p.is

    pub is_agenda : (l : List Node) → Ordered Sooner l → ((x : Node) → Mem x l → Lined x) → ((x : Node) → Lined x → Mem x l) → IsAgenda (occurrences (plans_of days ps)) from end (map (named days ps) l)
    is_agenda l o lines all = record {
      ordered = in_order l o lines;
      members = λ q. (
        (λ m. let r = map_mem (named days ps) l m in subst (λ (k : Occurrence). Mem k (occurrences (plans_of days ps)) × (in_window from end k ≡ true)) (sym r.2) (among r.0 (lines r.0 r.1))),
        (λ h. line_of l all q (in_place ps q h.0) h.1),
      );
    }

    -- lines of the merge write no more than the agenda
    pub lighter : {A : Type 0} (f : Occurrence → List A) (l : List Node) → Ordered Sooner l → ((x : Node) → Mem x l → Lined x) → (k : List Occurrence) → IsAgenda (occurrences (plans_of days ps)) from end k
        → length (flat_map f (map (named days ps) l)) ≤ length (flat_map f k)
    lighter f l o lines k a = heavier Before before_asym f k (map (named days ps) l) (in_order l o lines) a.ordered
        (λ q m. let r = map_mem (named days ps) l m in subst (λ (w : Occurrence). Mem w k) (sym r.2) ((a.members (named days ps r.0)).1 (among r.0 (lines r.0 r.1))))
