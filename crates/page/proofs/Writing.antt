-- One piece behind another on a page.
use Rattle.std.proofs.Common.{◌≡◌, ℕ, ◌+◌, ◌≤◌, List, [], ◌++◌, length, take, sym, refl, ap, ◌∙◌, arith}
use Rattle.std.proofs.lemmas.List.{append-nil, append_assoc, length-append}
use Rattle.refusal.specs.declared.Refusal.{Refusal}
use Rattle.page.specs.declared.pages.Page.{Page}
use Rattle.page.specs.Pages.{Kept, Added, Full, Short, Stays, Puts, Breaks}

pub added_none : (o : List ℕ) (n : ℕ) → n ≤ length o → Added [] o o n n
added_none o n h = record { room = omega arith; len = omega arith; octets = sym (append-nil (take n o)) }

pub added_more : (a b o p q : List ℕ) (n m l : ℕ) → length p ≡ length o → Added a o p n m → Added b p q m l → Added (a ++ b) o q n l
added_more a b o p q n m l h s t =
    let e = length-append a b in
    record {
      room = omega (arith, s.len, t.room);
      len = omega (arith, s.len, t.len);
      octets = t.octets ∙ ap (λ ys. ys ++ b) s.octets ∙ append_assoc (take n o) a b;
    }

pub kept_more : (a o p q : List ℕ) (n m : ℕ) → Added a o p n m → Kept o p n → Kept p q m → Kept o q n
kept_more a o p q n m s j k i h = k i (omega (arith, s.len)) ∙ j i h

-- ---- over pages

pub stays_none : {p : Page} → Stays p p
stays_none = record { same = refl; long = refl; kept = λ k h. refl }

module _ {p q : Page} (a : List ℕ) (s : Stays p q) (w : Puts a p q) where
  pub stays_then : {r : Page} → Stays q r → Stays p r
  stays_then {r} t = record { same = t.same ∙ s.same; long = t.long ∙ s.long; kept = kept_more a p.octets.now q.octets.now r.octets.now p.len q.len w s.kept t.kept }

  pub puts_then : (r : Page) (b : List ℕ) → Puts b q r → Puts (a ++ b) p r
  puts_then r b t = added_more a b p.octets.now q.octets.now r.octets.now p.len q.len r.len s.long w t

-- what fails after a part fails as a whole
pub breaks_then : {p q : Page} {e : Refusal} (a b w : List ℕ) → Stays p q → Puts a p q → length a + length b ≤ length w → Breaks b q e → Breaks w p e
breaks_then a b w s t h l = record { short = omega (arith, s.long, t.len, l.short); number = l.number }

pub breaks_full : {b o : List ℕ} {n m : ℕ} {e : Refusal} → Full b o n m e → Short b o n e
breaks_full t = record { short = t.short; number = t.number }
