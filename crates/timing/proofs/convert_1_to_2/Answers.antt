-- `timing::convert_1_to_2` meets its contract: the conversion from the first edition to the second. Assumes nothing.
use mathlib.Core.Path.{sym, subst}
use Rattle.format.specs.Accepted.{Known, the_first, the_second}
use Rattle.timing.proofs.convert_1_to_2.Goals as goal

pub convert_in-requires : goal.convert_in-requires
convert_in-requires c = (subst Known (sym c.first_edition.ensures) the_first, subst Known (sym c.second_edition.ensures) the_second)
