-- Years and their days.
use Rattle.std.proofs.Common.{◌≡◌, ℕ, zero, suc, ◌+◌, ◌-◌, ◌/◌, ◌<◌, ◌≤◌, refl, ap, ◌∙◌, ⊎_elim, arith}
use Rattle.std.proofs.lemmas.Bool.Decides.{nat_tests}
use Rattle.std.proofs.lemmas.Bool.{cases_lt, lt-ltb, le-ltb}
use Rattle.calendar.specs.Years.{is_leap, year_length, days_of_years, year_start, year_of}

first_year : year_start 1900 ≡ 0
unfolding year_start
first_year = refl

pub last_year : year_start 2200 ≡ 109573
unfolding year_start
last_year = refl

-- a year begins where the one before it ends
pub year_more : (y : ℕ) → 1900 ≤ y → year_start (y + 1) ≡ year_start y + year_length y
unfolding year_start is_leap
year_more y h = grind (arith, nat_tests)

counted : (k : ℕ) → year_start (1900 + k) ≡ days_of_years k
unfolding days_of_years
counted zero = first_year
counted (suc k) =
    let e : 1900 + suc k ≡ 1900 + k + 1 = omega arith in
    rw e (year_more (1900 + k) (omega arith) ∙ ap (λ n. n + year_length (1900 + k)) (counted k))

pub year_counts : (y : ℕ) → 1900 ≤ y → year_start y ≡ days_of_years (y - 1900)
year_counts y h = let e : 1900 + (y - 1900) ≡ y = omega arith in rw e at (counted (y - 1900))

-- years ascend
along : (y k : ℕ) → 1900 ≤ y → year_start y ≤ year_start (y + k)
along y zero h = let e : y + 0 ≡ y = omega arith in rw e (omega arith)
along y (suc k) h =
    let e : y + suc k ≡ y + k + 1 = omega arith in
    let m = year_more (y + k) (omega arith) in
    rw e (omega (arith, m, along y k h))

years_rise : (y z : ℕ) → 1900 ≤ y → y ≤ z → year_start y ≤ year_start z
years_rise y z h l = let e : y + (z - y) ≡ z = omega arith in rw e at (along y (z - y) h)

pub years_over : (y z : ℕ) → 1900 ≤ y → y < z → year_start y + year_length y ≤ year_start z
years_over y z h l = omega (arith, year_more y h, years_rise (y + 1) z (omega arith) (omega arith))

-- the day d lies in the year y
pub record InYear (d y : ℕ) : Type 0 where
  pub low : 1900 ≤ y
  pub high : y < 2200
  pub begins : year_start y ≤ d
  pub ends : d < year_start y + year_length y

guess_over : (d : ℕ) → d < 109573 → d < year_start (1900 + d / 365 + 1)
unfolding year_start
guess_over d h = omega arith

guess_low : (d : ℕ) → d < 109573 → d < year_start (1900 + d / 365) → (year_start (1899 + d / 365) ≤ d) × (1900 ≤ 1899 + d / 365)
unfolding year_start
guess_low d h l = (omega arith, omega arith)

guess_last : (d : ℕ) → d < 109573 → year_start (1900 + d / 365) ≤ d → 1900 + d / 365 < 2200
guess_last d h l =
    ⊎_elim (λ g. g)
    (λ g.
    let e : 1900 + d / 365 ≡ 2200 = omega arith in
    let m : year_start 2200 ≤ d = rw e at l in
    absurd (omega (arith, last_year)))
    (cases_lt (1900 + d / 365) 2200)

-- the year by its guess
pub year_then : (d : ℕ) → d < year_start (1900 + d / 365) → year_of d ≡ 1899 + d / 365
unfolding year_of
year_then d l = rw (lt-ltb d (year_start (1900 + d / 365)) l)

pub year_else : (d : ℕ) → year_start (1900 + d / 365) ≤ d → year_of d ≡ 1900 + d / 365
unfolding year_of
year_else d l = rw (le-ltb d (year_start (1900 + d / 365)) l)

pub in_year : (d : ℕ) → d < 109573 → InYear d (year_of d)
in_year d h =
    ⊎_elim
    (λ l.
    let p = guess_low d h l in
    let e : 1899 + d / 365 + 1 ≡ 1900 + d / 365 = omega arith in
    let m = year_more (1899 + d / 365) p.1 in
    rw (year_then d l) (record {
      low = p.1;
      high = omega arith;
      begins = p.0;
      ends = omega (arith, rw e at m);
    }))
    (λ l.
    rw (year_else d l) (record {
      low = omega arith;
      high = guess_last d h l;
      begins = l;
      ends = omega (arith, year_more (1900 + d / 365) (omega arith), guess_over d h);
    }))
    (cases_lt d (year_start (1900 + d / 365)))

-- and in no other
pub one_year : (d y z : ℕ) → InYear d y → InYear d z → y ≡ z
one_year d y z a b =
    ⊎_elim (λ l. absurd (omega (arith, years_over y z a.low l, a.ends, b.begins)))
    (λ g. ⊎_elim (λ l. absurd (omega (arith, years_over z y b.low l, b.ends, a.begins))) (λ k. omega arith) (cases_lt z y))
    (cases_lt y z)
