-- `timing::pulses` meets its contract: the report in the first edition. Assumes nothing.
use mathlib.Core.Path.{sym, subst}
use Rattle.format.specs.Accepted.{Known, the_first}
use Rattle.timing.proofs.pulses.Goals as goal

pub pulses_in-requires : goal.pulses_in-requires
pulses_in-requires c = subst Known (sym c.first_edition.ensures) the_first
