-- `program::simulate` meets its contract: the run's promise over the input's sheet and horizon, and what is printed of it. Assumes nothing.
use Rattle.program.specs.Program.{program_text}
use Rattle.program.proofs.simulate.Goals as goal

pub returns : goal.returns
unfolding program_text
returns c =
    let sheet = c.sheet_in.ensures in
    let horizon = c.horizon_in.ensures in
    let answer = rw (sheet, horizon) at c.run-answer.ensures.answered in
    let listing = rw (sheet, horizon) at c.run-answer.ensures.left in
    (listing, rw (answer, listing) at c.print.ensures)
