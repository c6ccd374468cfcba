-- One step of the merge.
use Rattle.std.proofs.Common.{◌≡◌, ℕ, ◌+◌, ◌*◌, ◌<◌, ◌≤◌, List, [], ◌∷◌, ◌++◌, length, set, sym, ◌∙◌, subst, inl, inr, ⊎_elim, arith}
use Rattle.std.proofs.lemmas.List.{get_or-set_same, get_or-set_other}
use Rattle.std.proofs.lemmas.Bool.{cases_eq, cases_lt}
use Rattle.series.specs.Members.{Mem, Ordered}
use Rattle.upcoming.specs.Least.{rank}
use Rattle.history.proofs.Members.{mem_append_left, mem_append_right}
use Rattle.tournament.specs.declared.nodes.Node.{Node}
use Rattle.tournament.specs.Ranks.{node, Played, Seated, rank as seed}
use Rattle.tournament.proofs.Games.{root_best, root_leaf}
use Rattle.merge.specs.Cursors.{Cursor, Stand}
use Rattle.merge.proofs.OrderedLists.{mem_push, ordered_push}

-- (start, place, day) in dictionary order, as one number
abbrev pub full : Node → ℕ
full x = x.start * 79228162514264337593543950336 + x.place * 4294967296 + x.day

abbrev pub Sooner : Node → Node → Type 0
Sooner x y = full x < full y

-- top is a leaf of the least start and place
pub record Top (n : ℕ) (t : List Node) (top : Node) : Type 0 where
  pub under : top.place < n
  pub leaf : top ≡ node t (n + top.place)
  pub least : (p : ℕ) → p < n → seed top ≤ seed (node t (n + p))

module _ (P : ℕ → ℕ → ℕ → Type 0) (from end : ℕ) where
  -- x is where the series at p stands, once l is written
  pub record Fresh (p : ℕ) (l : List Node) (x : Node) : Type 0 where
    pub seat : x.place ≡ p
    pub small : x.day < 4294967296
    pub real : x.start < end → P p x.start x.day × (from ≤ x.start)
    pub past : (z w : ℕ) → P p z w → from ≤ z → z < end → rank z w < rank x.start x.day → Mem (record { start = z; place = p; day = w }) l
    pub ahead : (y : Node) → Mem y l → full y < full x

  pub record Line (n : ℕ) (x : Node) : Type 0 where
    pub under : x.place < n
    pub held : P x.place x.start x.day
    pub since : from ≤ x.start
    pub until : x.start < end

  pub record Merging (n : ℕ) (t l : List Node) : Type 0 where
    pub each : (p : ℕ) → p < n → Fresh p l (node t (n + p))
    pub lines : (x : Node) → Mem x l → Line n x
    pub ordered : Ordered Sooner l

  pub fresh : (p : ℕ) (x : Node) → Cursor (P p) from 0 end p x → Fresh p [] x
  fresh p x c = record {
    seat = c.seat;
    small = c.small;
    real = λ h. ((c.real h).0, (let k : rank from 0 ≤ rank x.start x.day = (c.real h).1 in let s : x.day < 4294967296 = c.small in omega arith));
    past = λ z w q a b r. let k : rank x.start x.day ≤ rank z w = c.least z w q (omega arith) b in let v : ⊥ = omega arith in absurd v;
    ahead = λ y m. absurd m;
  }

  pub begins : (n : ℕ) (t : List Node) → Stand P from end n n t → Merging n t []
  begins n t s = record { each = λ p h. fresh p (node t (n + p)) (s p h); lines = λ x m. absurd m; ordered = tt }

module _ (P : ℕ → ℕ → ℕ → Type 0) (near : (p s d : ℕ) → P p s d → d ≤ 109572) (from end : ℕ) where
  -- a series that stands elsewhere still does once top is written
  others : (p : ℕ) (l : List Node) (x top : Node) → Fresh P from end p l x → full top < full x → Fresh P from end p (l ++ top ∷ []) x
  others p l x top f a = record {
    seat = f.seat;
    small = f.small;
    real = f.real;
    past = λ z w q b e r. mem_append_left _ l (top ∷ []) (f.past z w q b e r);
    ahead = λ y m. elim (mem_push y top l m) [ inl k ↦ f.ahead y k | inr e ↦ subst (λ (v : Node). full v < full x) (sym e) a ];
  }

  -- and the one that wrote it stands at its next
  moved : (l : List Node) (top x : Node) → top.start < end → Fresh P from end top.place l top → Cursor (P top.place) top.start (top.day + 1) end top.place x → Fresh P from end top.place (l ++ top ∷ []) x
  moved l top x h f c =
      let s : x.day < 4294967296 = c.small in
      let s' : top.day < 4294967296 = f.small in
      let r : rank top.start (top.day + 1) ≤ rank x.start x.day = c.reached h in
      let e : x.place ≡ top.place = c.seat in
      let up : full top < full x = omega arith in
      let since : from ≤ top.start = (f.real h).1 in
      record {
        seat = e;
        small = s;
        real = λ k. ((c.real k).0, omega arith);
        past = λ z w q b u k.
            let nw : w ≤ 109572 = near top.place z w q in
            ⊎_elim
            (λ lt. mem_append_left _ l (top ∷ []) (f.past z w q b u lt))
            (λ ge. ⊎_elim
            (λ same. mem_append_right (record { start = z; place = top.place; day = w }) l (top ∷ [])
            (inl (let es : z ≡ top.start = omega arith in let ed : w ≡ top.day = omega arith in λ j. record { start = es j; place = top.place; day = ed j })))
            (λ ne. let g : rank x.start x.day ≤ rank z w = c.least z w q (omega arith) u in let v : ⊥ = omega arith in absurd v)
            (cases_eq (rank z w) (rank top.start top.day)))
            (cases_lt (rank z w) (rank top.start top.day));
        ahead = λ y m. elim (mem_push y top l m) [
          | inl k ↦ (let a : full y < full top = f.ahead y k in omega arith)
          | inr q ↦ subst (λ (v : Node). full v < full x) (sym q) up
        ];
      }

  seated : (n : ℕ) (t l : List Node) → Merging P from end n t l → Seated n t
  seated n t l m p h = (m.each p h).seat

  -- the root of a played tree is the least of all
  pub tree_top : (n : ℕ) (t l : List Node) → 1 ≤ n → Played n t → Merging P from end n t l → Top n t (node t 1)
  tree_top n t l one w m =
      let r = root_leaf n t w (seated n t l m) one in
      record { under = r.0; leaf = r.1; least = λ p h. root_best n t w (n + p) (omega arith) (omega arith) }

  pub top_fresh : (n : ℕ) (t l : List Node) (top : Node) → Top n t top → Merging P from end n t l → Fresh P from end top.place l top
  top_fresh n t l top r m = subst (Fresh P from end top.place l) (sym r.leaf) (m.each top.place r.under)

  -- the step: the least is written, and its series moves on
  pub steps : (n : ℕ) (t u l : List Node) (top x : Node) → n < 18446744073709551616 → 2 * n ≤ length t → Top n t top → Merging P from end n t l → top.start < end
      → Cursor (P top.place) top.start (top.day + 1) end top.place x
      → ((j : ℕ) → n ≤ j → node u j ≡ node (set t (n + top.place) x) j) → Merging P from end n u (l ++ top ∷ [])
  steps n t u l top x small long r m h c leaves =
      let f = top_fresh n t l top r m in
      let real = f.real h in
      record {
        each = λ p k. ⊎_elim
            (λ e.
            let a : node u (n + top.place) ≡ x = leaves (n + top.place) (omega arith) ∙ get_or-set_same t (n + top.place) x _ (let b : top.place < n = r.under in omega arith) in
            subst (λ (q : ℕ). Fresh P from end q (l ++ top ∷ []) (node u (n + q))) (sym e) (subst (Fresh P from end top.place (l ++ top ∷ [])) (sym a) (moved l top x h f c)))
            (λ ne.
            let a : node u (n + p) ≡ node t (n + p) = leaves (n + p) (omega arith) ∙ get_or-set_other t (n + top.place) (n + p) x _ (λ e. ne (omega (arith, e))) in
            let g : Fresh P from end p l (node t (n + p)) = m.each p k in
            let y = node t (n + p) in
            let q : y.place ≡ p = g.seat in
            let b : seed top ≤ seed y = r.least p k in
            let v : top.place < n = r.under in
            let s : top.day < 4294967296 = f.small in
            subst (Fresh P from end p (l ++ top ∷ [])) (sym a) (others p l y top g (omega arith)))
            (cases_eq p top.place);
        lines = λ y k. elim (mem_push y top l k) [
          | inl o ↦ m.lines y o
          | inr e ↦ subst (Line P from end n) (sym e) (record { under = r.under; held = real.0; since = real.1; until = h })
        ];
        ordered = ordered_push Sooner top l m.ordered f.ahead;
      }

  -- with the root written too, all are lines in order
  pub record More (n : ℕ) (l : List Node) : Type 0 where
    pub ordered : Ordered Sooner l
    pub lines : (x : Node) → Mem x l → Line P from end n x

  pub one_more : (n : ℕ) (t l : List Node) (top : Node) → Top n t top → Merging P from end n t l → top.start < end → More n (l ++ top ∷ [])
  one_more n t l top r m h =
      let f = top_fresh n t l top r m in
      let real = f.real h in
      record {
        ordered = ordered_push Sooner top l m.ordered f.ahead;
        lines = λ y k. elim (mem_push y top l k) [
          | inl o ↦ m.lines y o
          | inr e ↦ subst (Line P from end n) (sym e) (record { under = r.under; held = real.0; since = real.1; until = h })
        ];
      }

  -- the end: nothing is left before it
  pub ends : (n : ℕ) (t l : List Node) (top : Node) → n < 18446744073709551616 → Top n t top → Merging P from end n t l → end ≤ top.start → (x : Node) → Line P from end n x → Mem x l
  ends n t l top small r m h x v =
      let p = x.place in
      let f : Fresh P from end p l (node t (n + p)) = m.each p v.under in
      let b : seed top ≤ seed (node t (n + p)) = r.least p v.under in
      let k : top.place < n = r.under in
      let q : (node t (n + p)).place ≡ p = f.seat in
      let u : p < n = v.under in
      let d : x.day ≤ 109572 = near p x.start x.day v.held in
      let e : x.start < end = v.until in
      f.past x.start x.day v.held v.since e (omega arith)
