-- What one comparison says of all the records on its side.
use Rattle.std.proofs.Common.{◌≡◌, ℕ, ◌+◌, ◌<◌, ◌≤◌, List, length, get_or, subst, ⊎_elim, arith, below_more}
use Rattle.std.proofs.lemmas.List.{get_or_read}
use Rattle.std.proofs.lemmas.Bool.{cases_eq}
use Rattle.lookup.specs.Places.{Rising}

module _ {R K : Type 0} (before : R → R → Type 0) (xs : List R) (rising : Rising before xs) (m : ℕ) (x : R) (key : K) (within : m < length xs) (is : x ≡ get_or xs m x) where
  pub lower : (less : R → K → Type 0) → ((a b : R) (k : K) → before a b → less b k → less a k) → less x key → (j : ℕ) (d : R) → j < m + 1 → less (get_or xs j d) key
  lower less down h j d l =
      let here : less (get_or xs m d) key = subst (λ (y : R). less y key) (get_or_read xs m x within is d) h in
      below_more (λ i. less (get_or xs i d) key) m (λ i lt. down (get_or xs i d) (get_or xs m d) key (rising i m d lt within) here) here j l

  pub upper : (more : R → K → Type 0) → ((a b : R) (k : K) → before a b → more a k → more b k) → more x key → (j : ℕ) (d : R) → m ≤ j → j < length xs → more (get_or xs j d) key
  upper more up h j d l lt =
      let here : more (get_or xs m d) key = subst (λ (y : R). more y key) (get_or_read xs m x within is d) h in
      ⊎_elim (λ e. subst (λ (i : ℕ). more (get_or xs i d) key) e here)
      (λ ne. up (get_or xs m d) (get_or xs j d) key (rising m j d (omega arith) lt) here) (cases_eq m j)
