-- What each edit puts, given the plan of its UID.
use Rattle.std.specs.Prelude.{◌≡◌, None}
use Rattle.std.specs.List.{AllByRecursion}
use Rattle.series.specs.Plans.{Plan}
use Rattle.history.specs.Items.{Edit, cancel, alter, whole, split, edit_new}
use Rattle.history.specs.CancelPuts.{cancel_puts}
use Rattle.history.specs.AlterPuts.{alter_puts}
use Rattle.history.specs.WholePuts.{whole_puts}
use Rattle.history.specs.SplitPuts.{split_puts}
use Rattle.history.specs.States.{Map, Record}

abbrev pub edit_puts : Edit → Plan → Record
edit_puts (cancel e) p = cancel_puts e p
edit_puts (alter e) p = alter_puts e p
edit_puts (whole e) p = whole_puts e p
edit_puts (split e) p = split_puts e p

-- the UIDs that the edit brings in have no plan
abbrev pub NewFree : Edit → Map → Type 0
NewFree e f = AllByRecursion (λ u. f u ≡ None) (edit_new e)
