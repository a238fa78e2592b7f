-- `timing::run_2` meets its contract: the run in the second edition. Assumes nothing.
use mathlib.Core.Path.{sym, subst}
use Rattle.format.specs.Accepted.{Known, the_second}
use Rattle.timing.proofs.run_2.Goals as goal

pub run-requires : goal.run-requires
run-requires c = subst Known (sym c.second_edition.ensures) the_second
