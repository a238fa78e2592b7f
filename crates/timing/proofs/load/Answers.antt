-- `timing::load` meets its contract: the load in the first edition. Assumes nothing.
use mathlib.Core.Path.{sym, subst}
use Rattle.format.specs.Accepted.{Known, the_first}
use Rattle.timing.proofs.load.Goals as goal

pub load_in-requires : goal.load_in-requires
load_in-requires c = subst Known (sym c.first_edition.ensures) the_first
