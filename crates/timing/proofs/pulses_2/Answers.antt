-- `timing::pulses_2` meets its contract: the report in the second edition. Assumes nothing.
use mathlib.Core.Path.{sym, subst}
use Rattle.format.specs.Accepted.{Known, the_second}
use Rattle.timing.proofs.pulses_2.Goals as goal

pub pulses_in-requires : goal.pulses_in-requires
pulses_in-requires c = subst Known (sym c.second_edition.ensures) the_second
