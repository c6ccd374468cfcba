-- The agenda while its lines are added, day by day.
use Rattle.std.proofs.Common.{◌≡◌, ℕ, ◌+◌, ◌<◌, ◌≤◌, true, false, ltb, leb, List, [], ◌∷◌, ◌++◌, length, filter, nat_le, sym, refl, ap, ◌∙◌, subst, ⊎_elim, arith}
use Rattle.std.specs.List.{flat_map, AllByRecursion}
use Rattle.std.proofs.ByRecursion.{All-weaker, All-from_get_or, all_kept_by, kept_by_passes}
use Rattle.std.proofs.lemmas.List.{append-nil, append_assoc, length-append}
use Rattle.std.proofs.lemmas.Bool.{and_from, and_right, and_parts, le-leb, lt-ltb, le-ltb, leb-true}
use Rattle.std.proofs.lemmas.Bool.Decides.{leb_tells}
use Rattle.calendar.specs.Starts.{start_of}
use Rattle.page.specs.declared.pages.Page.{Page}
use Rattle.page.specs.Pages.{Stays, Puts, Lacks}
use Rattle.page.proofs.Writing.{added_none, stays_none, stays_then, puts_then}
use Rattle.refusal.specs.declared.Refusal.{Refusal}
use Rattle.source.specs.Days.{Ascending, since}
use Rattle.source.specs.Kept.{kept_none, kept_within}
use Rattle.source.specs.Ascents.{kept_ascends}
use Rattle.event.specs.Agenda.{in_window}

module _ (line : ℕ → List ℕ) (clock from end : ℕ) (whole : List ℕ) where
  -- those of some days that the window shows
  abbrev pub shown : List ℕ → List ℕ
  shown xs = filter (in_window clock from end) xs

  -- the text is what is written and the lines of the days that are left
  pub record Along (xs : List ℕ) (n : ℕ) (p q : Page) : Type 0 where
    pub written : List ℕ
    pub puts : Puts written p q
    pub stays : Stays p q
    pub text : written ++ flat_map line (shown xs) ≡ flat_map line whole
    pub count : n + length (shown xs) ≡ length whole
    pub few : n + length xs ≤ 109573
    pub ascends : Ascending xs
    pub later : AllByRecursion (λ d. from ≤ start_of d clock) xs
    pub within : AllByRecursion (λ d. d ≤ 109572) xs

  is_in_window : (d : ℕ) → from ≤ start_of d clock → start_of d clock < end → in_window clock from end d ≡ true
  is_in_window d a b = and_from (leb from (start_of d clock)) (ltb (start_of d clock) end) (le-leb from (start_of d clock) a) (lt-ltb (start_of d clock) end b)

  past_end : (d : ℕ) → end ≤ start_of d clock → in_window clock from end d ≡ false
  past_end d a = and_right (leb from (start_of d clock)) (ltb (start_of d clock) end) (le-ltb (start_of d clock) end a)

  module _ (day : ℕ) (xs : List ℕ) (n : ℕ) (p q : Page) (s : Along (day ∷ xs) n p q) where
    -- a day before the end, and the rest
    shown_first : start_of day clock < end → shown (day ∷ xs) ≡ day ∷ shown xs
    shown_first b = rw (is_in_window day s.later.0 b)

    pub along_more : (r : Page) → start_of day clock < end → Puts (line day) q r → Stays q r → Along xs (n + 1) p r
    along_more r b t u =
        let e = shown_first b in
        record {
          written = s.written ++ line day;
          puts = puts_then s.written s.stays s.puts r (line day) t;
          stays = stays_then s.written s.stays s.puts u;
          text = append_assoc s.written (line day) (flat_map line (shown xs)) ∙ ap (λ ys. s.written ++ flat_map line ys) (sym e) ∙ s.text;
          count = omega (arith, s.count, ap length e);
          few = omega (arith, s.few);
          ascends = s.ascends.1;
          later = s.later.1;
          within = s.within.1;
        }

    -- a line that does not fit is a part of what does not fit
    pub along_full : (r : Page) (e : Refusal) → start_of day clock < end → Lacks (line day) q r e → length p.octets.now < p.len + length (flat_map line whole)
    along_full r _ b t =
        let e = shown_first b in
        let w = ap length (sym s.text ∙ ap (λ ys. s.written ++ flat_map line ys) e) in
        let x = length-append s.written (line day ++ flat_map line (shown xs)) in
        let y = length-append (line day) (flat_map line (shown xs)) in
        omega (arith, s.puts.len, s.stays.long, t.short)

  along_all : (xs : List ℕ) (n : ℕ) (p q : Page) → shown xs ≡ [] → Along xs n p q → Puts (flat_map line whole) p q × (n ≡ length whole)
  along_all xs n p q z s =
      let w : s.written ≡ flat_map line whole = sym (append-nil s.written) ∙ ap (λ ys. s.written ++ flat_map line ys) (sym z) ∙ s.text in
      (subst (λ (v : List ℕ). Puts v p q) w s.puts, omega (arith, s.count, ap length z))

  -- nothing is left behind the last day
  pub along_end : (n : ℕ) (p q : Page) → Along [] n p q → Puts (flat_map line whole) p q × (n ≡ length whole)
  along_end n p q s = along_all [] n p q refl s

  -- nor from a day at or past the end on
  pub along_past : (day : ℕ) (xs : List ℕ) (n : ℕ) (p q : Page) → end ≤ start_of day clock → Along (day ∷ xs) n p q → Puts (flat_map line whole) p q × (n ≡ length whole)
  along_past day xs n p q h s =
      along_all (day ∷ xs) n p q
      (kept_none (in_window clock from end) (day ∷ xs)
      (past_end day h, All-weaker (λ y. day < y) (λ y. in_window clock from end y ≡ false) (λ y l. past_end y (omega arith)) xs s.ascends.0)) s

-- before the first line all days from the first that may start in the window are left
pub along_none : (line : ℕ → List ℕ) (clock from end : ℕ) (days : List ℕ) → Ascending days → AllByRecursion (λ d. d ≤ 109572) days → (p : Page) (next : ℕ) → p.len ≤ length p.octets.now
    → ((d : ℕ) → d < next → start_of d clock < from) → from ≤ start_of next clock → length (since next days) ≤ 109573
    → Along line clock from end (filter (in_window clock from end) days) (since next days) 0 p p
along_none line clock from end days a b p next h below later few =
    let same : filter (in_window clock from end) (since next days) ≡ filter (in_window clock from end) days =
    kept_within (in_window clock from end) (λ x. leb next x) days (All-from_get_or (λ x. in_window clock from end x ≡ true → leb next x ≡ true) days 0 (λ i _ e. from_next _ e)) in
    let past : AllByRecursion (λ d. next ≤ d) (since next days) = All-weaker (λ d. nat_le next d ≡ true) (λ d. next ≤ d) (λ d h. leb-true next d h) (since next days) (kept_by_passes (λ d. leb next d) days) in
    let u = kept_ascends (λ d. leb next d) days a in
    let v = all_kept_by (λ d. leb next d) (λ d. d ≤ 109572) days b in
    record {
      written = [];
      puts = added_none p.octets.now p.len h;
      stays = stays_none;
      text = ap (flat_map line) same;
      count = omega (arith, ap length same);
      few = omega (arith, few);
      ascends = u;
      later = All-weaker (λ d. next ≤ d) (λ d. from ≤ start_of d clock) (λ d h. omega arith) (since next days) past;
      within = v;
    }
  where
    from_next : (d : ℕ) → in_window clock from end d ≡ true → leb next d ≡ true
    from_next d e =
        let a = leb-true from (start_of d clock) (and_parts (leb from (start_of d clock)) (ltb (start_of d clock) end) e).0 in
        ⊎_elim (λ t. t.0) (λ f. absurd (omega (arith, below d f.1))) (leb_tells next d)
