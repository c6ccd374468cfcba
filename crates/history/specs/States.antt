-- What a diary holds, said by plans: the plan of each UID, the undo records, and the drafts.
use Rattle.std.specs.Prelude.{ℕ, cond, List, [], ◌∷◌, ◌++◌, map, Some, None, Option}
use Rattle.std.specs.Str.{bytes_eq}
use Rattle.series.specs.Members.{Ordered}
use Rattle.series.specs.Order.{Ahead, precedes}
use Rattle.series.specs.Plans.{Plan, Occurrence, occurrences_of}
use Rattle.history.specs.Items.{Edit}

abbrev pub Plans : Type 0
Plans = List (List ℕ × Plan)

-- the UIDs ascend
abbrev pub Ascends : Plans → Type 0
Ascends ps = Ordered (λ p q. Ahead p.0 q.0) ps

-- the plan of a UID, as a function: what the laws are said by
abbrev pub Map : Type 0
Map = List ℕ → Option Plan

abbrev pub at : Plans → Map
at [] u = None
at (p ∷ ps) u = cond (bytes_eq p.0 u) (Some p.1) (at ps u)

abbrev pub put : List ℕ → Option Plan → Map → Map
put u v f w = cond (bytes_eq u w) v (f w)

-- an undo record: some UIDs, each with the plan that it had, or with none
abbrev pub Record : Type 0
Record = List (List ℕ × Option Plan)

abbrev pub puts : Record → Map → Map
puts [] f = f
puts (e ∷ es) f = puts es (put e.0 e.1 f)

-- what the map holds at the UIDs of a record
abbrev pub priors : Record → Map → Record
priors es f = map (λ e. (e.0, f e.0)) es

-- the same on the ordered list
abbrev pub leading : List ℕ → Option Plan → Plans → Plans
leading u None ps = ps
leading u (Some p) ps = (u, p) ∷ ps

abbrev pub placing : List ℕ → Option Plan → Plans → Plans
placing u v [] = leading u v []
placing u v (p ∷ ps) = cond (precedes u p.0) (leading u v (p ∷ ps)) (cond (bytes_eq p.0 u) (leading u v ps) (p ∷ placing u v ps))

abbrev pub placings : Record → Plans → Plans
placings [] ps = ps
placings (e ∷ es) ps = placings es (placing e.0 e.1 ps)

-- the occurrences of all plans
abbrev pub occurrences : Plans → List Occurrence
occurrences [] = []
occurrences (p ∷ ps) = occurrences_of p.0 p.1 ++ occurrences ps

-- a draft: its number, its UID, and its edit once it is checked
pub record Draft : Type 0 where
  pub number : ℕ
  pub uid : List ℕ
  pub edit : Option Edit

pub record State : Type 0 where
  pub plans : Plans
  pub undo : List Record
  pub drafts : List Draft
