-- `timing::run` meets its contract: the run in document 01's edition. Assumes nothing.
use mathlib.Core.Path.{sym, subst}
use Rattle.format.specs.Accepted.{Known, the_first}
use Rattle.timing.proofs.run.Goals as goal

pub run-requires : goal.run-requires
run-requires c = subst Known (sym c.first_edition.ensures) the_first
