-- What drafts hold and reserve.
use Rattle.std.specs.Prelude.{ℕ, suc, Bool, List, [], ◌∷◌, is_some, count_by, Some, None, Option}
use Rattle.std.specs.List.{list_any}
use Rattle.std.specs.Option.{option_map}
use Rattle.std.specs.Str.{bytes_eq}
use Rattle.series.specs.Values.{uid_octets, text_octets}
use Rattle.history.specs.Items as items
use Rattle.history.specs.States as states
use Rattle.diary.specs.declared.drafts.Draft.{Draft}
use Rattle.diary.specs.declared.drafts.Edit.{Edit}
use Rattle.diary.specs.declared.drafts.Edit.TheVariants.{Cancel, Alter, Whole, Split}

-- the UID that a checked edit is to bring in
abbrev pub brings_in : Edit → Option (List ℕ)
brings_in (Cancel day) = None
brings_in (Alter day a) = None
brings_in (Whole w) = None
brings_in (Split day new w) = Some (uid_octets new)

-- the UID that a draft reserves a place for, once its edit is checked
abbrev pub reserved_by_edit : Option Edit → Option (List ℕ)
reserved_by_edit None = None
reserved_by_edit (Some e) = brings_in e

abbrev pub reserved_by : Option Draft → Option (List ℕ)
reserved_by None = None
reserved_by (Some d) = reserved_by_edit d.edit

abbrev pub listed : {X : Type 0} → Option X → List X
listed None = []
listed (Some x) = x ∷ []

-- the UIDs that a draft holds: its own, and the new one of a checked split
abbrev pub held_by : Option Draft → List (List ℕ)
held_by None = []
held_by (Some d) = uid_octets d.uid ∷ listed (reserved_by_edit d.edit)

abbrev pub is_in : List ℕ → List (List ℕ) → Bool
is_in u vs = list_any (λ v. bytes_eq v u) vs

abbrev pub any_holds : List ℕ → List (Option Draft) → Bool
any_holds u slots = list_any (λ s. is_in u (held_by s)) slots

-- how many drafts reserve a place
abbrev pub all_reserved : List (Option Draft) → ℕ
all_reserved slots = count_by (λ s. is_some (reserved_by s)) slots

-- the edit in the history's words
abbrev pub edit_of : List ℕ → Edit → items.Edit
edit_of u (Cancel day) = items.cancel (record { uid = u; day = day })
edit_of u (Alter day a) = items.alter (record { uid = u; day = day; start = a.start; text = text_octets a.text })
edit_of u (Whole w) = items.whole (record { uid = u; clock = w.clock.minutes; duration = w.duration.minutes; text = text_octets w.text })
edit_of u (Split day new w) = items.split (record { uid = u; day = day; new = uid_octets new; clock = w.clock.minutes; duration = w.duration.minutes; text = text_octets w.text })

-- the drafts by number, from n on
abbrev pub numbered : ℕ → List (Option Draft) → List states.Draft
numbered n [] = []
numbered n (None ∷ ss) = numbered (suc n) ss
numbered n (Some d ∷ ss) = record { number = n; uid = uid_octets d.uid; edit = option_map (edit_of (uid_octets d.uid)) d.edit } ∷ numbered (suc n) ss
