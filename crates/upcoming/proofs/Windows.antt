-- The first plain day that a window reaches is its next plain occurrence.
use Rattle.std.proofs.Common.{◌≡◌, ℕ, ◌+◌, ◌*◌, ◌<◌, ◌≤◌, None, nat_lt, ⊎_elim, arith}
use Rattle.std.proofs.lemmas.Bool.{cases_lt, lt-ltb, le-ltb}
use Rattle.std.specs.Bool.{then_some}
use Rattle.std.specs.List.{AllByRecursion}
use Rattle.calendar.specs.Starts.{start_of}
use Rattle.series.specs.Plans.{Plan}
use Rattle.upcoming.specs.Kinds.{Plain, FirstPlain, PlainFrom}
use Rattle.upcoming.specs.Least.{rank, Least, Next, NoneIn}
use Rattle.upcoming.proofs.Finds.{all_mem}

module _ (p : Plan) (bounded : AllByRecursion (λ d. d ≤ 109572) p.days) (clock s d first : ℕ) (is : clock ≡ p.clock)
    (before : (x : ℕ) → x < 4294967296 → rank s d ≤ rank (x * 1440 + clock) x → first ≤ x) where
  reaches : (z w : ℕ) → Plain p z w → rank s d ≤ rank z w → first ≤ w
  reaches z w h r =
      let n : w ≤ 109572 = all_mem (λ x. x ≤ 109572) p.days bounded w h.among in
      let q : z ≡ start_of w p.clock = h.starts in
      before w (omega arith) (omega arith)

  pub none_plain : (end : ℕ) → PlainFrom p first None → NoneIn (Plain p) s d end
  none_plain end n = λ z w h r l. n w h.among h.unmarked (reaches z w h r)

  pub past_end : (end e : ℕ) → FirstPlain p first e → end ≤ e * 1440 + clock → NoneIn (Plain p) s d end
  past_end end e f g = λ z w h r l.
      let k : e ≤ w = f.first w h.among h.unmarked (reaches z w h r) in
      let q : z ≡ start_of w p.clock = h.starts in
      omega arith

  pub least_plain : (end e : ℕ) → FirstPlain p first e → rank s d ≤ rank (e * 1440 + clock) e → e * 1440 + clock < end → Least (Plain p) s d end (e * 1440 + clock) e
  least_plain end e f r l = record {
    holds = record { among = f.among; unmarked = f.unmarked; starts = omega arith };
    reached = r;
    within = l;
    least = λ z w h v m.
        let k : e ≤ w = f.first w h.among h.unmarked (reaches z w h v) in
        let q : z ≡ start_of w p.clock = h.starts in
        omega arith;
  }

  -- the first plain day's key, where it lies before the end
  pub window_plain : (end e n : ℕ) → FirstPlain p first e → rank s d ≤ rank (e * 1440 + clock) e → n ≡ e * 1440 + clock
      → Next (Plain p) s d end (then_some (nat_lt n end) (record { start = n; day = e }))
  window_plain end e n f r q =
      ⊎_elim
      (λ (l : e * 1440 + clock < end). rw (q, lt-ltb (e * 1440 + clock) end l) (least_plain end e f r l))
      (λ (g : end ≤ e * 1440 + clock). rw (q, le-ltb (e * 1440 + clock) end g) (past_end end e f g))
      (cases_lt (e * 1440 + clock) end)
