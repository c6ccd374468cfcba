use Rattle.std.proofs.Common.{◌≡◌, ℕ, true, List, Option, sym, subst}
use Rattle.series.specs.declared.changes.Override.{Override}
use Rattle.series.specs.Marks.{overrides_fit, Place}
use Rattle.std.specs.Result.{result_ok}
use Rattle.series.specs.Plans.{overrides_of}
use Rattle.series.proofs.Fitting.{fit_rises, place_found}
use Rattle.series.proofs.overrides.Overrides.place.Goals as goal

pub find-requires : goal.find-requires
find-requires c =
    let e = c.as_slice.ensures in
    fit_rises 0 c.as_slice.result.now (subst (λ (os : List Override). overrides_fit 0 os ≡ true) (sym e) c.args.self.now.items.sound)

pub returns : goal.returns
returns c =
    let e = c.as_slice.ensures in
    let os = c.as_slice.result.now in
    let fit : overrides_fit 0 os ≡ true = subst (λ (xs : List Override). overrides_fit 0 xs ≡ true) (sym e) c.args.self.now.items.sound in
    let found : Place (overrides_of c.args.self.now) c.args.day (result_ok c.find.result) = subst (λ (xs : List Override). Place xs c.args.day (result_ok c.find.result)) e (place_found os c.args.day c.find.result fit c.find.ensures) in
    subst (λ (o : Option ℕ). Place (overrides_of c.args.self.now) c.args.day o) (sym c.ok.ensures.value) found
