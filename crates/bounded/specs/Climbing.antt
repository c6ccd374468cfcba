-- Records with days that climb.
use Rattle.std.specs.Prelude.{◌≡◌, ℕ, zero, suc, ◌+◌, ◌<◌, ◌≤◌, Bool, true, false, ◌&&◌, ◌⊎◌, List, [], ◌∷◌, length, take, drop, nat_le, refl}
use Rattle.std.proofs.Common.{◌∙◌, get_or, inl, inr, arith}
use Rattle.std.proofs.lemmas.Bool.{and_parts, and_left, and_right, leb-true, le-leb, lt-leb}
use Rattle.calendar.specs.Years.{last_day}

module _ {R : Type 0} (day : R → ℕ) (fits : R → Bool) where
  -- the first day is at least so much, each other comes after the one before it, and all is in bounds
  abbrev pub climbing : ℕ → List R → Bool
  climbing least [] = true
  climbing least (x ∷ xs) = ((nat_le least (day x) && nat_le (day x) last_day) && fits x) && climbing (day x + 1) xs

  -- at most so many, and they climb
  abbrev pub climbable : ℕ → List R → Bool
  climbable limit xs = nat_le (length xs) limit && climbing 0 xs

  -- what it says of the first
  pub record Climbs (n : ℕ) (x : R) (xs : List R) : Type 0 where
    pub low : n ≤ day x
    pub high : day x ≤ last_day
    pub fit : fits x ≡ true
    pub rest : climbing (day x + 1) xs ≡ true

  pub climbs_first : (n : ℕ) (x : R) (xs : List R) → climbing n (x ∷ xs) ≡ true → Climbs n x xs
  climbs_first n x xs h =
      let a = and_parts ((nat_le n (day x) && nat_le (day x) last_day) && fits x) (climbing (day x + 1) xs) h in
      let b = and_parts (nat_le n (day x) && nat_le (day x) last_day) (fits x) a.0 in
      let c = and_parts (nat_le n (day x)) (nat_le (day x) last_day) b.0 in
      record { low = leb-true n (day x) c.0; high = leb-true (day x) last_day c.1; fit = b.1; rest = a.1 }

  -- where the first fits, it is the rest that matters
  pub climbs_on : (n : ℕ) (x : R) (xs : List R) → n ≤ day x → day x ≤ last_day → fits x ≡ true → climbing n (x ∷ xs) ≡ climbing (day x + 1) xs
  climbs_on n x xs low high fit = rw (le-leb n (day x) low, le-leb (day x) last_day high, fit)

  -- why a first one does not fit
  abbrev pub Misfit : ℕ → R → Type 0
  Misfit n x = (day x < n) ⊎ ((last_day < day x) ⊎ (fits x ≡ false))

  pub misfit : (n : ℕ) (x : R) (xs : List R) → Misfit n x → climbing n (x ∷ xs) ≡ false
  misfit n x xs w = and_left ((nat_le n (day x) && nat_le (day x) last_day) && fits x) (climbing (day x + 1) xs) (why w)
    where
      why : Misfit n x → ((nat_le n (day x) && nat_le (day x) last_day) && fits x) ≡ false
      why (inl l) = and_left (nat_le n (day x) && nat_le (day x) last_day) (fits x) (and_left (nat_le n (day x)) (nat_le (day x) last_day) (lt-leb n (day x) l))
      why (inr (inl l)) = and_left (nat_le n (day x) && nat_le (day x) last_day) (fits x) (and_right (nat_le n (day x)) (nat_le (day x) last_day) (lt-leb (day x) last_day l))
      why (inr (inr f)) = and_right (nat_le n (day x) && nat_le (day x) last_day) (fits x) f

  -- the parts of a list that climbs climb
  climb_lower : (m n : ℕ) (xs : List R) → m ≤ n → climbing n xs ≡ true → climbing m xs ≡ true
  climb_lower m n [] l h = refl
  climb_lower m n (x ∷ xs) l h = let s = climbs_first n x xs h in climbs_on m x xs (omega (arith, s.low)) s.high s.fit ∙ s.rest

  pub climb_take : (n k : ℕ) (xs : List R) → climbing n xs ≡ true → climbing n (take k xs) ≡ true
  climb_take n zero xs h = refl
  climb_take n (suc k) [] h = refl
  climb_take n (suc k) (x ∷ xs) h =
      let s = climbs_first n x xs h in climbs_on n x (take k xs) s.low s.high s.fit ∙ climb_take (day x + 1) k xs s.rest

  pub climb_drop : (n k : ℕ) (xs : List R) → climbing n xs ≡ true → climbing 0 (drop k xs) ≡ true
  climb_drop n zero xs h = climb_lower 0 n xs (omega arith) h
  climb_drop n (suc k) [] h = refl
  climb_drop n (suc k) (x ∷ xs) h = climb_drop (day x + 1) k xs (climbs_first n x xs h).rest

  -- none has a day below the least, and each has a later one than those before it
  pub climb_from : (n : ℕ) (xs : List R) → climbing n xs ≡ true → (j : ℕ) (o : R) → j < length xs → n ≤ day (get_or xs j o)
  climb_from n [] h j o l = absurd (omega arith)
  climb_from n (x ∷ xs) h zero o l = (climbs_first n x xs h).low
  climb_from n (x ∷ xs) h (suc j) o l =
      let s = climbs_first n x xs h in
      let k : day x + 1 ≤ day (get_or xs j o) = climb_from (day x + 1) xs s.rest j o (omega arith) in
      let low = s.low in
      omega arith

  pub climb_rises : (n : ℕ) (xs : List R) → climbing n xs ≡ true → (i j : ℕ) (o : R) → i < j → j < length xs → day (get_or xs i o) < day (get_or xs j o)
  climb_rises n [] h i j o p q = absurd (omega arith)
  climb_rises n (x ∷ xs) h i zero o p q = absurd (omega arith)
  climb_rises n (x ∷ xs) h zero (suc j) o p q =
      let k : day x + 1 ≤ day (get_or xs j o) = climb_from (day x + 1) xs (climbs_first n x xs h).rest j o (omega arith) in omega arith
  climb_rises n (x ∷ xs) h (suc i) (suc j) o p q = climb_rises (day x + 1) xs (climbs_first n x xs h).rest i j o (omega arith) (omega arith)
