-- The ticks are those of the same sheet. Assumes nothing.
use Rattle.run.proofs.accepted.run_accepted.Given as goal

abbrev pub ghost-ticks : goal.ghost-ticks
ghost-ticks g a = g.sheet
