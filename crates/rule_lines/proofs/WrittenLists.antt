-- Lists of entries are read back.
use Rattle.std.proofs.Common.{◌≡◌, ℕ, ◌+◌, ◌<◌, ◌≤◌, List, [], ◌∷◌, ◌++◌, map, length, Some, Option, sym, refl, ap, ◌∙◌, subst, arith}
use Rattle.std.specs.List.{flat_map, AllByRecursion}
use Rattle.std.proofs.ByRecursion.{All-append, All-weaker}
use Rattle.std.proofs.lemmas.List.{append-nil, append_assoc, length_push, length-set, length-replicate, take_more_set}
use Rattle.std.proofs.lemmas.Bool.{lt-ltb}
use Rattle.recurrence.specs.declared.parts.Few.{Few}
use Rattle.recurrence.specs.Entries.{entries, none}
use Rattle.rule_text.specs.Lists.{pushed, entries_named, few_named}
use Rattle.rule_lines.proofs.Separated.{Lacks, fields_joined}
use Rattle.rule_lines.proofs.WrittenNumbers.{Plain}

-- an entry's text is read back, and has no mark in it
pub record Read {X : Type 0} (named : List ℕ → Option X) (text : X → List ℕ) (x : X) : Type 0 where
  pub back : named (text x) ≡ Some x
  pub plain : AllByRecursion Plain (text x)

-- the entries of a list are just these
pub record Holds {X : Type 0} (few : Few X) (xs : List X) : Type 0 where
  pub len : few.len ≡ length xs
  pub items : entries few ≡ xs
  pub room : length few.items ≡ 12

abbrev pushed_all : {X : Type 0} → Few X → List X → Few X
pushed_all few [] = few
pushed_all few (x ∷ xs) = pushed_all (pushed few x) xs

abbrev pub few_of : {X : Type 0} → X → List X → Few X
few_of blank xs = pushed_all (none blank) xs

module _ {X : Type 0} where
  pushed_holds : (few : Few X) (ys : List X) (x : X) → length ys < 12 → Holds few ys → Holds (pushed few x) (ys ++ (x ∷ []))
  pushed_holds few ys x h s =
      let b : few.len < 12 = omega (arith, s.len) in
      let t = lt-ltb few.len 12 b in
      record {
        len = omega (arith, s.len, length_push ys x);
        items = rw t (take_more_set few.items few.len x (omega (arith, s.room)) ∙ ap (λ zs. zs ++ (x ∷ [])) s.items);
        room = rw t (length-set few.items few.len x ∙ s.room);
      }

  all_pushed : (xs : List X) (few : Few X) (ys : List X) → length ys + length xs ≤ 12 → Holds few ys → Holds (pushed_all few xs) (ys ++ xs)
  all_pushed [] few ys h s = subst (Holds few) (sym (append-nil ys)) s
  all_pushed (x ∷ xs) few ys h s =
      subst (Holds (pushed_all (pushed few x) xs)) (append_assoc ys (x ∷ []) xs) (all_pushed xs (pushed few x) (ys ++ (x ∷ [])) (omega (arith, length_push ys x)) (pushed_holds few ys x (omega arith) s))

  pub few_holds : (blank : X) (xs : List X) → length xs ≤ 12 → Holds (few_of blank xs) xs
  few_holds blank xs h = all_pushed xs _ [] (omega arith) (record { len = refl; items = refl; room = length-replicate 12 blank })

module _ {X : Type 0} (named : List ℕ → Option X) (text : X → List ℕ) where
  entries_read : (xs : List X) (few : Few X) → AllByRecursion (Read named text) xs → entries_named named (map text xs) few ≡ Some (pushed_all few xs)
  entries_read [] few h = refl
  entries_read (x ∷ xs) few h = rw h.0.back (entries_read xs (pushed few x) h.1)

  pub few_read : (blank x : X) (xs : List X) → AllByRecursion (Read named text) (x ∷ xs) → few_named named blank (text x ++ flat_map (λ y. 44 ∷ text y) xs) ≡ Some (few_of blank (x ∷ xs))
  few_read blank x xs h =
      ap (λ fs. entries_named named fs (none blank))
      (fields_joined 44 text x xs (All-weaker (Read named text) (λ y. Lacks 44 (text y)) (λ y r. All-weaker Plain (λ z. z ≡ 44 → ⊥) (λ z p. p.0) (text y) r.plain) (x ∷ xs) h))
      ∙ entries_read (x ∷ xs) (none blank) h

  pub few_lacks : (xs : List X) → AllByRecursion (Read named text) xs → Lacks 59 (flat_map (λ y. 44 ∷ text y) xs)
  few_lacks [] h = tt
  few_lacks (x ∷ xs) h =
      All-append (λ y. y ≡ 59 → ⊥) (44 ∷ text x) (flat_map (λ y. 44 ∷ text y) xs) ((λ e. omega (arith, e)), All-weaker Plain (λ z. z ≡ 59 → ⊥) (λ z p. p.1) (text x) h.0.plain) (few_lacks xs h.1)
