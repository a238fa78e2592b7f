-- `timing::load_2` meets its contract: the load in the second edition. Assumes nothing.
use mathlib.Core.Path.{sym, subst}
use Rattle.format.specs.Accepted.{Known, the_second}
use Rattle.timing.proofs.load_2.Goals as goal

pub load_in-requires : goal.load_in-requires
load_in-requires c = subst Known (sym c.second_edition.ensures) the_second
