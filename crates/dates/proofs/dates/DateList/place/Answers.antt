use Rattle.std.proofs.Common.{◌≡◌, ℕ, true, List, sym, subst}
use Rattle.dates.specs.Climbs.{climbs}
use Rattle.dates.proofs.Splits.{days_rise, Parted, part_present, part_absent, split}
use Rattle.dates.proofs.dates.DateList.place.Goals as goal

pub find-requires : goal.find-requires
find-requires c =
    days_rise c.as_slice.result.now (subst (λ (xs : List ℕ). climbs 0 xs ≡ true) (sym c.as_slice.ensures) c.args.self.now.days.sound)

pub returns-in-Ok : goal.returns-in-Ok
returns-in-Ok c =
    let l = c.args.self.now in
    let s = c.as_slice.ensures in
    let d = c.args.day in
    let n = c.in-Ok.place in
    split l d n
    (subst (λ (xs : List ℕ). Parted xs d n) s
    (part_present c.as_slice.result.now d n (subst (λ (xs : List ℕ). climbs 0 xs ≡ true) (sym s) l.days.sound) c.in-Ok.ensures))

pub returns-in-Ok-2 : goal.returns-in-Ok-2
returns-in-Ok-2 c =
    let s = c.as_slice.ensures in
    let d = c.args.day in
    let n = c.in-Ok.place in
    split c.args.self.now d n
    (subst (λ (xs : List ℕ). Parted xs d n) s (part_absent c.as_slice.result.now d n c.in-Ok.ensures))
