-- Months and their days.
use Rattle.std.proofs.Common.{◌≡◌, ℕ, zero, suc, ◌+◌, ◌-◌, ◌<◌, ◌≤◌, Bool, true, false, cond, Some, None, refl, subst, ⊎_elim, arith}
use Rattle.std.proofs.lemmas.Bool.Decides.{nat_tests}
use Rattle.std.proofs.lemmas.Bool.{cases_lt, le-leb, lt-leb}
use Rattle.calendar.specs.Months.{is_month, month_length, before, begun}

pub month_long : (leap : Bool) (m : ℕ) → (28 ≤ month_length leap m) × (month_length leap m ≤ 31)
unfolding month_length
month_long true m = (grind (arith, nat_tests), grind (arith, nat_tests))
month_long false m = (grind (arith, nat_tests), grind (arith, nat_tests))

pub before_none : (leap : Bool) → before leap 0 ≡ 0
unfolding before
before_none leap = refl

before_more : (leap : Bool) (k : ℕ) → before leap (suc k) ≡ before leap k + month_length leap (suc k)
unfolding before
before_more leap k = refl

pub before_all : (leap : Bool) → before leap 12 ≡ cond leap 366 365
unfolding before month_length
before_all true = refl
before_all false = refl

pub month_back : (leap : Bool) (m : ℕ) → 1 ≤ m → before leap m ≡ before leap (m - 1) + month_length leap m
month_back leap zero h = absurd (omega arith)
month_back leap (suc k) h = let e : suc k - 1 ≡ k = omega arith in rw e (before_more leap k)

pub month_step : (leap : Bool) (m : ℕ) → 1 ≤ m → before leap (m + 1 - 1) ≡ before leap (m - 1) + month_length leap m
month_step leap m h = let e : m + 1 - 1 ≡ m = omega arith in rw e (month_back leap m h)

-- months ascend
along : (leap : Bool) (j k : ℕ) → before leap j ≤ before leap (j + k)
along leap j zero = let e : j + 0 ≡ j = omega arith in rw e (omega arith)
along leap j (suc k) =
    let e : j + suc k ≡ suc (j + k) = omega arith in
    rw e (omega (arith, before_more leap (j + k), along leap j k))

pub before_rise : (leap : Bool) (j k : ℕ) → j ≤ k → before leap j ≤ before leap k
before_rise leap j k l = let e : j + (k - j) ≡ k = omega arith in rw e at (along leap j (k - j))

-- the day n of a year lies in the month m
pub record InMonth (leap : Bool) (n m : ℕ) : Type 0 where
  pub low : 1 ≤ m
  pub high : m ≤ 12
  pub begins : before leap (m - 1) ≤ n
  pub ends : n < before leap m

begun_more : (leap : Bool) (n k : ℕ) → before leap k ≤ n → begun leap n (suc k) ≡ suc k
unfolding begun
begun_more leap n k h = rw (le-leb (before leap k) n h)

begun_less : (leap : Bool) (n k : ℕ) → n < before leap k → begun leap n (suc k) ≡ begun leap n k
unfolding begun
begun_less leap n k h = rw (lt-leb (before leap k) n h)

found : (leap : Bool) (n k : ℕ) → k ≤ 11 → n < before leap (suc k) → InMonth leap n (begun leap n (suc k))
found leap n zero h l =
    let b : before leap 0 ≤ n = omega (arith, before_none leap) in
    rw (begun_more leap n 0 b) (record { low = omega arith; high = omega arith; begins = b; ends = l })
found leap n (suc k) h l =
    let e : suc k ≡ suc (suc k) - 1 = omega arith in
    ⊎_elim (λ g. rw (begun_less leap n (suc k) g) (found leap n k (omega arith) g))
    (λ g. rw (begun_more leap n (suc k) g) (record { low = omega arith; high = omega arith; begins = subst (λ (j : ℕ). before leap j ≤ n) e g; ends = l }))
    (cases_lt n (before leap (suc k)))

pub is_in_month : (leap : Bool) (n : ℕ) → n < cond leap 366 365 → InMonth leap n (begun leap n 12)
is_in_month leap n h = found leap n 11 (omega arith) (omega (arith, before_all leap))

-- and in no other
pub one_month : (leap : Bool) (n j k : ℕ) → InMonth leap n j → InMonth leap n k → j ≡ k
one_month leap n j k a b =
    ⊎_elim (λ l. absurd (omega (arith, before_rise leap j (k - 1) (omega arith), a.ends, b.begins)))
    (λ g.
    ⊎_elim (λ l. absurd (omega (arith, before_rise leap k (j - 1) (omega arith), b.ends, a.begins))) (λ w. omega arith) (cases_lt k j))
    (cases_lt j k)

-- a month has a length just where there is one
pub length_some : (leap : Bool) (m n : ℕ) → cond (is_month m) (Some (month_length leap m)) None ≡ Some n → (1 ≤ m) × (m ≤ 12) × (n ≡ month_length leap m)
length_some leap m n e = grind (arith, nat_tests)

pub length_none : (leap : Bool) (m : ℕ) → cond (is_month m) (Some (month_length leap m)) None ≡ None → 1 ≤ m → m ≤ 12 → ⊥
length_none leap m e l h = grind (arith, nat_tests)
