-- `simulate::print_whole` meets its contract: the lent text takes all that is printed. Assumes nothing.
use Rattle.lent.proofs.Putting.{place_within}
use Rattle.program.proofs.Whole.{all_printed}
use Rattle.simulate.proofs.print_whole.Goals as goal

pub returns : goal.returns
returns c =
    let input = c.args.input.now in
    let listing = c.args.listing.now in
    let whole = all_printed input listing c.requires.0 c.requires.1 c.simulate.ensures.1 in
    (whole.0, whole.1, place_within c.simulate.ensures.1)
