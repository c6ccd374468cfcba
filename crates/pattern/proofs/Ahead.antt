-- From a day to the next active period.
use Rattle.std.proofs.Common.{◌≡◌, ℕ, ◌+◌, ◌*◌, ◌%◌, ◌<◌, ◌≤◌, Bool, true, false, not, Some, None, Option, eqb, sym, ap, ◌∙◌, subst, ⊎_elim, arith}
use Rattle.std.proofs.lemmas.Bool.{cases_lt, eq-eqb, and_left, and_from, and_right}
use Rattle.recurrence.specs.declared.parts.Frequency.{Frequency}
use Rattle.recurrence.specs.declared.parts.Frequency.TheVariants.{Daily, Weekly, Monthly, Yearly}
use Rattle.recurrence.specs.declared.parts.Pattern.{Pattern}
use Rattle.std.specs.Option.{MatchOption, option_map, option_map_or}
use Rattle.std.specs.Bool.{then_some}
use Rattle.pattern.specs.Periods.{period_in, active}
use Rattle.pattern.specs.First.{NoneIn, First}
use Rattle.pattern.specs.Picks.{picked, picks}
use Rattle.pattern.specs.declared.day.Day.{Day}
use Rattle.pattern.specs.Openings.{OpensIf, most}
use Rattle.calendar.specs.Years.{year_of}
use Rattle.calendar.specs.Dates.{month_of}
use Rattle.calendar.specs.Weekdays.{weekday_number}
use Rattle.calendar.proofs.Dating.{dated}
use Rattle.pattern.proofs.Periods.{rises}

pub most_least : (f : Frequency) → most f ≤ 111000
most_least Daily = omega arith
most_least Weekly = omega arith
most_least Monthly = omega arith
most_least Yearly = omega arith

-- the active periods have numbers that leave `rest`; none is from the day's on, before `next`
module _ (p : Pattern) (start day here rest next : ℕ) (h : day < 109573) (eh : here ≡ period_in p day) (er : rest ≡ period_in p start % p.interval)
    (pass : (k : ℕ) → here ≤ k → k < next → eqb (k % p.interval) rest ≡ false) where
  idle_before : (k : ℕ) → day ≤ k → k < 109573 → period_in p k < next → active p start k ≡ false
  idle_before k a b u =
      let v = rises p.frequency (weekday_number p.week_start) day k a b in
      ap (eqb (period_in p k % p.interval)) (sym er) ∙ pass (period_in p k) (omega arith) u

  pub jump : here < next → next % p.interval ≡ rest → (o : Option Day) → OpensIf p.frequency (weekday_number p.week_start) next (option_map (λ d. d.number) o)
      → First (active p start) day 109573 (option_map (λ d. d.number) o)
  jump lt is None u = λ k a b. idle_before k a b (u k b)
  jump lt is (Some r) o =
      let l = r.known in
      let q : period_in p r.number ≡ next = o.is l in
      record {
        low = ⊎_elim (λ (g : day < r.number). omega arith) (λ g. absurd (let z = o.over day h g in omega arith)) (cases_lt day r.number);
        high = l;
        passed = λ k a b. idle_before k a (omega arith) (o.under k (omega arith) b);
        found = eq-eqb (period_in p r.number % p.interval) (period_in p start % p.interval) (ap (λ n. n % p.interval) q ∙ is ∙ er);
      }

same_month : (d k : ℕ) → d < 109573 → k < 109573 → d ≤ k → 12 * year_of k + month_of k < 12 * year_of d + month_of d + 1 → month_of k ≡ month_of d
same_month d k h b a u =
    let i = (dated d h).month in
    let j = (dated k b).month in
    omega (arith, rises Monthly 0 d k a b, i.low, i.high, j.low, j.high)

-- before the next month opens, the month is the same
pub month_kept : (d n : ℕ) (o : Option Day) → d < 109573 → OpensIf Monthly 0 (12 * year_of d + month_of d + 1) (option_map (λ r. r.number) o) → n ≡ option_map_or (λ r. r.number) o 109573
    → (d < n) × (n ≤ 109573) × ((k : ℕ) → d ≤ k → k < n → month_of k ≡ month_of d)
month_kept d n None h u e = (omega arith, omega arith, λ k a l. same_month d k h (omega arith) a (u k (omega arith)))
month_kept d n (Some r) h o e =
    let b = r.known in (
      ⊎_elim (λ (g : d < r.number). omega arith) (λ g. absurd (let z = o.over d h g in omega arith)) (cases_lt d r.number),
      omega arith,
      λ k a l. same_month d k h (omega arith) a (o.under k (omega arith) (omega arith)),
    )

-- what the parts of a pick say
pub idle : (p : Pattern) (start k : ℕ) → active p start k ≡ false → picks p start k ≡ false
unfolding picks
idle p start k a = and_left (active p start k) (picked p start k) a

pub left_out : (p : Pattern) (start k : ℕ) → picked p start k ≡ false → picks p start k ≡ false
unfolding picks
left_out p start k a = and_right (active p start k) (picked p start k) a

pub taken_in : (p : Pattern) (start k : ℕ) → active p start k ≡ true → picked p start k ≡ true → picks p start k ≡ true
unfolding picks
taken_in p start k a b = and_from (active p start k) (picked p start k) a b

-- a day that is not picked is passed, and no other
pub step_on : (f : ℕ → Bool) (d n : ℕ) (b : Bool) → b ≡ f d → n ≡ d + 1 → MatchOption (then_some (not b) n) (f d ≡ true) (λ next. (d < next) × NoneIn f d next)
step_on f d n true e en = sym e
step_on f d n false e en = (omega arith, λ k a l. let i : d ≡ k = omega arith in subst (λ (x : ℕ). f x ≡ false) i (sym e))
