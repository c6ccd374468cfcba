-- The two kinds of shown occurrences: on a plain day, and moved by an alteration.
use Rattle.std.specs.Prelude.{◌≡◌, ℕ, ◌<◌, ◌≤◌, Bool, true, false, ◌⊎◌, List, [], ◌∷◌, Some, None, Option, nat_lt}
use Rattle.calendar.specs.Starts.{start_of}
use Rattle.series.specs.declared.changes.Change.{Change}
use Rattle.series.specs.declared.changes.Change.TheVariants.{Cancelled, Altered}
use Rattle.series.specs.declared.changes.Override.{Override}
use Rattle.series.specs.Marks.{plain}
use Rattle.series.specs.Members.{Mem}
use Rattle.series.specs.Plans.{Plan}
use Rattle.upcoming.specs.declared.keys.Key.{Key}
use Rattle.upcoming.specs.Least.{rank}

-- the day d of the plan has no override, and starts at s by the clock
pub record Plain (p : Plan) (s d : ℕ) : Type 0 where
  pub among : Mem d p.days
  pub unmarked : p.marks d ≡ plain
  pub starts : s ≡ start_of d p.clock

-- e is the first plain day from d on
pub record FirstPlain (p : Plan) (d e : ℕ) : Type 0 where
  pub among : Mem e p.days
  pub unmarked : p.marks e ≡ plain
  pub from : d ≤ e
  pub first : (x : ℕ) → Mem x p.days → p.marks x ≡ plain → d ≤ x → e ≤ x

abbrev pub PlainFrom : Plan → ℕ → Option ℕ → Type 0
PlainFrom p d None = (x : ℕ) → Mem x p.days → p.marks x ≡ plain → d ≤ x → ⊥
PlainFrom p d (Some e) = FirstPlain p d e

-- a change gives the start s
abbrev pub StartsAt : Change → ℕ → Type 0
StartsAt Cancelled s = ⊥
StartsAt (Altered a) s = s ≡ a.start

-- the override moves the day d to s
abbrev pub MovesTo : Override → ℕ → ℕ → Type 0
MovesTo o s d = (d ≡ o.day) × StartsAt o.change s

-- where the override moves its day, or that it does not
abbrev pub KeyOf : Override → Option Key → Type 0
KeyOf o None = (s d : ℕ) → MovesTo o s d → ⊥
KeyOf o (Some k) = MovesTo o k.start k.day

-- one of the overrides does
abbrev pub Moves : List Override → ℕ → ℕ → Type 0
Moves [] s d = ⊥
Moves (o ∷ os) s d = MovesTo o s d ⊎ Moves os s d

abbrev pub Moved : List ℕ → List Override → ℕ → ℕ → Type 0
Moved days os s d = Mem d days × Moves os s d

-- (s, d) comes before the best so far
abbrev pub beats : ℕ → ℕ → Option Key → Bool
beats s d None = true
beats s d (Some k) = nat_lt (rank s d) (rank k.start k.day)

-- where an override moves its day to, if that lies in the window and before the best so far
pub record Better (o : Override) (s d end : ℕ) (best : Option Key) (k : Key) : Type 0 where
  pub moves : MovesTo o k.start k.day
  pub reached : rank s d ≤ rank k.start k.day
  pub within : k.start < end
  pub first : beats k.start k.day best ≡ true

abbrev pub BetterOf : Override → ℕ → ℕ → ℕ → Option Key → Option Key → Type 0
BetterOf o s d end best None = (x y : ℕ) → MovesTo o x y → rank s d ≤ rank x y → x < end → beats x y best ≡ false
BetterOf o s d end best (Some k) = Better o s d end best k
