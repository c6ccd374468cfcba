-- What is on the page while the merge goes on.
use Rattle.std.proofs.Common.{◌≡◌, ℕ, ◌+◌, ◌*◌, ◌/◌, ◌%◌, ◌<◌, ◌≤◌, ◌≢◌, true, leb, List, [], ◌∷◌, ◌++◌, map, length, set, decimal, sym, refl, ap, ◌∙◌, subst, arith}
use Rattle.std.specs.List.{flat_map}
use Rattle.std.proofs.lemmas.Grind.{flat_map-append}
use Rattle.std.proofs.lemmas.Bool.{and_parts, leb-true}
use Rattle.std.proofs.lemmas.List.{append-nil, length-append, length-map, length_push, length-set, map_push}
use Rattle.calendar.specs.Dates.{date_of}
use Rattle.calendar.specs.Starts.{is_window, starts_end}
use Rattle.calendar.specs.declared.windows.Window.{Window}
use Rattle.history.specs.States.{occurrences}
use Rattle.page.specs.Lines.{date_text, clock_text, fields_text}
use Rattle.page.specs.declared.pages.Page.{Page}
use Rattle.page.specs.Pages.{Puts, Lacks, Stays}
use Rattle.page.proofs.Writing.{added_none, stays_none, stays_then, puts_then}
use Rattle.refusal.specs.declared.Refusal.{Refusal}
use Rattle.series.specs.Plans.{Occurrence, shown_start, shown_text}
use Rattle.store.specs.declared.pairs.Pair.{Pair}
use Rattle.store.specs.Pairs.{Ascends}
use Rattle.tournament.specs.declared.nodes.Node.{Node}
use Rattle.tournament.specs.Ranks.{node, Played, Won}
use Rattle.tournament.proofs.Games.{changed}
use Rattle.merge.specs.Cursors.{Cursor, Stand}
use Rattle.merge.specs.Places.{ShowsAt, named}
use Rattle.merge.specs.Printed.{occurrence_line, plans_of, NoneFits, Printed}
use Rattle.merge.proofs.Merging.{Merging, Fresh, Top, More, begins, tree_top, top_fresh, steps, one_more, ends}
use Rattle.merge.proofs.Naming.{is_agenda, lighter}

-- a line is not empty
fields_long : (a b c u t : List ℕ) → 1 ≤ length (fields_text a b c u t)
unfolding fields_text
fields_long a b c u t = let e : length (a ++ (44 ∷ (b ++ (44 ∷ (c ++ (44 ∷ (u ++ (44 ∷ (t ++ (10 ∷ []))))))))))
    ≡ length a + length (44 ∷ (b ++ (44 ∷ (c ++ (44 ∷ (u ++ (44 ∷ (t ++ (10 ∷ []))))))))) = length-append a (44 ∷ (b ++ (44 ∷ (c ++ (44 ∷ (u ++ (44 ∷ (t ++ (10 ∷ []))))))))) in omega arith

pub line_long : (o : Occurrence) → 1 ≤ length (occurrence_line o)
line_long o = fields_long (date_text (date_of (shown_start o / 1440))) (clock_text (shown_start o % 1440)) (decimal o.duration) o.uid (shown_text o)

module _ {S : Type 0} (days : S → List ℕ) (ps : List (Pair S)) where
  -- what the nodes write
  abbrev pub written : List Node → List ℕ
  written l = flat_map occurrence_line (map (named days ps) l)

  pub written_push : (l : List Node) (x : Node) → written (l ++ x ∷ []) ≡ written l ++ occurrence_line (named days ps x)
  written_push l x =
      ap (flat_map occurrence_line) (map_push (named days ps) l x) ∙ flat_map-append occurrence_line (map (named days ps) l) (named days ps x ∷ [])
      ∙ ap (λ ys. written l ++ ys) (append-nil (occurrence_line (named days ps x)))

  -- k lines stand behind the old length, those of the nodes that the merge has given
  pub record Writing (v : Window) (n : ℕ) (t : List Node) (k : ℕ) (p q : Page) : Type 0 where
    pub near : (i s d : ℕ) → ShowsAt days ps i s d → d ≤ 109572
    pub ascends : Ascends ps
    pub small : length ps < 18446744073709551616
    pub window : is_window v.from v.end ≡ true
    pub some : 1 ≤ n
    pub all : n ≡ length ps
    pub room : 2 * n ≤ length t
    pub played : Played n t
    pub nodes : List Node
    pub merging : Merging (ShowsAt days ps) v.from v.end n t nodes
    pub count : k ≡ length nodes
    pub few : p.len + k ≤ q.len
    pub page : Puts (written nodes) p q
    pub stays : Stays p q

module _ {S : Type 0} (days : S → List ℕ) (ps : List (Pair S)) (near : (i s d : ℕ) → ShowsAt days ps i s d → d ≤ 109572) (ascends : Ascends ps) (small : length ps < 18446744073709551616) (v : Window) (window : is_window v.from v.end ≡ true) (p : Page) (h : p.len ≤ length p.octets.now) where
  -- before the first line
  pub writes_none : (n : ℕ) (t u : List Node) → 1 ≤ n → n ≡ length ps → 2 * n ≤ length u → Played n u → Stand (ShowsAt days ps) v.from v.end n n t → ((j : ℕ) → n ≤ j → node u j ≡ node t j) → Writing days ps v n u 0 p p
  writes_none n t u one e r w s leaves = record {
    near = near;
    ascends = ascends;
    small = small;
    window = window;
    some = one;
    all = e;
    room = r;
    played = w;
    nodes = [];
    merging = begins (ShowsAt days ps) v.from v.end n u (λ i b. subst (λ (x : Node). Cursor (ShowsAt days ps i) v.from 0 v.end i x) (sym (leaves (n + i) (omega arith))) (s i b));
    count = refl;
    few = omega arith;
    page = added_none p.octets.now p.len h;
    stays = stays_none;
  }

  -- no series, no line
  pub prints_none : length ps ≡ 0 → Printed (occurrences (plans_of days ps)) v 0 p p
  prints_none z = record {
    window = window;
    lines = [];
    agenda = is_agenda days ps near small ascends v.from v.end [] tt (λ x m. absurd m) (λ x w. let u : x.place < length ps = w.under in omega arith);
    count = refl;
    page = added_none p.octets.now p.len h;
  }

module _ {S : Type 0} {days : S → List ℕ} {ps : List (Pair S)} {v : Window} {n : ℕ} {t : List Node} {k : ℕ} {p q : Page} {top : Node} (w : Writing days ps v n t k p q) (is : top ≡ node t 1) where
  abbrev P : ℕ → ℕ → ℕ → Type 0
  P = ShowsAt days ps

  root : Top n t top
  root = subst (λ (x : Node). Top n t x) (sym is) (tree_top P w.near v.from v.end n t w.nodes w.some w.played w.merging)

  fresh_root : Fresh P v.from v.end top.place w.nodes top
  fresh_root = top_fresh P w.near v.from v.end n t w.nodes top root w.merging

  -- the root has a leaf
  pub seated : top.place < n
  seated = root.under

  -- and is shown, where it is before the end
  pub shown : top.start < v.end → P top.place top.start top.day
  shown h = (fresh_root.real h).0

  pub day_near : top.start < v.end → top.day ≤ 109572
  day_near h = w.near top.place top.start top.day (shown h)

  pub in_time : top.start < v.end → top.start < starts_end
  in_time h = let e : v.end ≤ 157785120 = leb-true v.end 157785120 (and_parts (leb v.from v.end) (leb v.end 157785120) w.window).1 in omega arith

  -- with the root at the end, all is printed
  pub prints : v.end ≤ top.start → Printed (occurrences (plans_of days ps)) v k p q
  prints h = record {
    window = w.window;
    lines = map (named days ps) w.nodes;
    agenda =
        let g : Merging P v.from v.end (length ps) t w.nodes = subst (λ (i : ℕ). Merging P v.from v.end i t w.nodes) w.all w.merging in
        let r : Top (length ps) t top = subst (λ (i : ℕ). Top i t top) w.all root in
        is_agenda days ps w.near w.small w.ascends v.from v.end w.nodes g.ordered g.lines (ends P w.near v.from v.end (length ps) t w.nodes top w.small r g h);
    count = w.count ∙ sym (length-map w.nodes (named days ps));
    page = w.page;
  }

  -- where the root's line does not fit, no agenda does
  pub none_fits : top.start < v.end → (r : Page) (e : Refusal) → Lacks (occurrence_line (named days ps top)) q r e → NoneFits (occurrences (plans_of days ps)) v p
  none_fits h r e f a g =
      let b : More P w.near v.from v.end (length ps) (w.nodes ++ top ∷ []) = subst (λ (i : ℕ). More P w.near v.from v.end i (w.nodes ++ top ∷ [])) w.all
      (one_more P w.near v.from v.end n t w.nodes top root w.merging h) in
      let c : length (written days ps (w.nodes ++ top ∷ [])) ≤ length (flat_map occurrence_line a) = lighter days ps w.near w.small w.ascends v.from v.end occurrence_line (w.nodes ++ top ∷ []) b.ordered b.lines a g in
      let d : length (written days ps (w.nodes ++ top ∷ [])) ≡ length (written days ps w.nodes) + length (occurrence_line (named days ps top)) =
      ap length (written_push days ps w.nodes top) ∙ length-append (written days ps w.nodes) (occurrence_line (named days ps top)) in
      omega (arith, w.page.len, w.stays.long, f.short)

  -- the leaf of the root moved on, the games above it stand but for its parent's
  pub replays : (x : Node) → (top.place < n) × ((j : ℕ) → 1 ≤ j → j < n → j ≢ (n + top.place) / 2 → Won (set t (n + top.place) x) j)
  replays x = (root.under, changed n t (n + top.place) x (omega arith) w.played)

  -- and with it, the merge goes on
  pub writes_more : top.start < v.end → (x : Node) (u : List Node) (r : Page) → Cursor (P top.place) top.start (top.day + 1) v.end top.place x
      → ((j : ℕ) → n ≤ j → node u j ≡ node (set t (n + top.place) x) j) → Played n u → length u ≡ length (set t (n + top.place) x)
      → Puts (occurrence_line (named days ps top)) q r → Stays q r → Writing days ps v n u (k + 1) p r
  writes_more h x u r c leaves played long add keep = record {
    near = w.near;
    ascends = w.ascends;
    small = w.small;
    window = w.window;
    some = w.some;
    all = w.all;
    room = omega (arith, w.room, length-set t (n + top.place) x);
    played = played;
    nodes = w.nodes ++ top ∷ [];
    merging = steps P w.near v.from v.end n t u w.nodes top x (omega (arith, w.all, w.small)) w.room root w.merging h c leaves;
    count = omega (arith, w.count, length_push w.nodes top);
    few = omega (arith, w.few, add.len, line_long (named days ps top));
    page = rw (written_push days ps w.nodes top) (puts_then (written days ps w.nodes) w.stays w.page r (occurrence_line (named days ps top)) add);
    stays = stays_then (written days ps w.nodes) w.stays w.page keep;
  }
