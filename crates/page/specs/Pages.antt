-- What a writer does to a page.
use Rattle.std.specs.Prelude.{◌≡◌, ℕ, ◌+◌, ◌<◌, ◌≤◌, List, ◌++◌, length, take, Result, MatchResult}
use Rattle.refusal.specs.declared.Refusal.{Refusal}
use Rattle.refusal.specs.Numbers.{number as number_of}
use Rattle.page.specs.declared.pages.Page.{Page}

-- ---- over octets: o and p are those before and after, n and m the lengths

-- the octets before the old length do not change
abbrev pub Kept : List ℕ → List ℕ → ℕ → Type 0
Kept o p n = (k : ℕ) → k ≤ n → take k p ≡ take k o

-- the piece fits, and stands behind what was there
pub record Added (piece o p : List ℕ) (n m : ℕ) : Type 0 where
  pub room : n + length piece ≤ length o
  pub len : m ≡ n + length piece
  pub octets : take m p ≡ take n o ++ piece

-- the piece does not fit
pub record Short (piece o : List ℕ) (n : ℕ) (e : Refusal) : Type 0 where
  pub short : length o < n + length piece
  pub number : number_of e ≡ 23

-- the piece does not fit, and the length is as it was
pub record Full (piece o : List ℕ) (n m : ℕ) (e : Refusal) : Type 0 where
  pub short : length o < n + length piece
  pub len : m ≡ n
  pub number : number_of e ≡ 23

-- ---- over pages: p before and q after

-- the octets are the same lent ones, and those that were written do not change
pub record Stays (p q : Page) : Type 0 where
  pub same : q.octets.ghost_name ≡ p.octets.ghost_name
  pub long : length q.octets.now ≡ length p.octets.now
  pub kept : Kept p.octets.now q.octets.now p.len

-- the piece is added
abbrev pub Puts : List ℕ → Page → Page → Type 0
Puts piece p q = Added piece p.octets.now q.octets.now p.len q.len

-- the piece is refused, and a part of it may be left
abbrev pub Breaks : List ℕ → Page → Refusal → Type 0
Breaks piece p e = Short piece p.octets.now p.len e

-- the piece is refused, and the length is as it was
abbrev pub Lacks : List ℕ → Page → Page → Refusal → Type 0
Lacks piece p q e = Full piece p.octets.now p.len q.len e

-- what a writing that answers r leaves: refused, the length is as it was
pub record Wholly {T : Type 0} (writes : Result T Refusal → Page → Type 0) (r : Result T Refusal) (p q : Page) : Type 0 where
  pub last : Page
  pub wrote : writes r last
  pub same : q.octets.ghost_name ≡ last.octets.ghost_name
  pub octets : q.octets.now ≡ last.octets.now
  pub len : MatchResult r (λ _. q.len ≡ last.len) (λ _. q.len ≡ p.len)
