-- What is entered, and what enter refuses.
use Rattle.std.specs.Prelude.{◌≡◌, ℕ, ◌+◌, Bool, cond, not, ◌&&◌, List, length, is_some, Some, None, Option, nat_le, nat_lt}
use Rattle.std.specs.List.{list_all}
use Rattle.series.specs.declared.changes.Override.{Override}
use Rattle.series.specs.declared.overrides.Overrides.{Overrides}
use Rattle.series.specs.Octets.{is_uid, is_text, is_stamp}
use Rattle.series.specs.Plans.{Plan, plan_from, overrides_of}
use Rattle.series.specs.Values.{text_octets, stamp_octets}
use Rattle.source.specs.Days.{among, no_days}
use Rattle.store.specs.declared.pairs.Pair.{Pair}
use Rattle.store.specs.Pairs.{key, held}
use Rattle.diary.specs.declared.drafts.Draft.{Draft}
use Rattle.diary.specs.declared.entries.Entry.{Entry}
use Rattle.diary.specs.Drafts.{any_holds, all_reserved}

-- every override is of one of the days
abbrev pub on_days : List Override → List ℕ → Bool
on_days os days = list_all (λ o. among o.day days) os

module _ {S : Type 0} where
  -- the values are in bounds
  abbrev pub values_fit : List ℕ → Entry S → Bool
  values_fit uid e = is_uid uid && (nat_lt e.clock 1440 && (nat_le e.duration 1440 && (is_text e.text.now && is_stamp e.stamp.now)))

  -- the pair has the UID and the values of the entry
  pub record PairOf (uid : List ℕ) (e : Entry S) (p : Pair S) : Type 0 where
    pub uid_is : key p ≡ uid
    pub source : p.series.repeats.source ≡ e.source
    pub clock : p.series.repeats.clock.minutes ≡ e.clock
    pub duration : p.series.repeats.duration.minutes ≡ e.duration
    pub text : text_octets p.series.repeats.text ≡ e.text.now
    pub stamp : stamp_octets p.series.stamp ≡ e.stamp.now
    pub overrides : p.series.overrides ≡ e.overrides

  module _ (days : S → List ℕ) where
    -- what the entry means
    abbrev pub entry_plan : Entry S → Plan
    entry_plan e = plan_from days e.source e.clock e.duration e.text.now e.overrides

    -- what a state refuses of a pair whose values are in bounds: the UID is there, or held; the source is empty; an override is off it; there is no room
    abbrev pub state_refusal : (limit : ℕ) → List (Pair S) → List (Option Draft) → List ℕ → S → Overrides → Option ℕ
    state_refusal limit pairs slots uid source overrides =
        cond (is_some (held uid pairs)) (Some 12) (
        cond (any_holds uid slots) (Some 14) (
        cond (no_days (days source)) (Some 25) (
        cond (not (on_days (overrides_of overrides) (days source))) (Some 17) (
        cond (nat_le limit (length pairs + all_reserved slots)) (Some 15)
        None))))

    -- the number that enter refuses with, the first that applies; none where it accepts
    abbrev pub enter_refusal : (places limit : ℕ) → List (Pair S) → List (Option Draft) → List ℕ → Entry S → Option ℕ
    enter_refusal places limit pairs slots uid e =
        cond (nat_lt places 16) (Some 26) (
        cond (values_fit uid e) (state_refusal limit pairs slots uid e.source e.overrides) (Some 8))
