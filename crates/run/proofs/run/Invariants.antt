-- The sheet that is run is the one that is held. Assumes nothing.
use Rattle.sheet.specs.Contents.{held_sheet}
use Rattle.run.proofs.run.Given as goal

abbrev pub ghost-run_accepted : goal.ghost-run_accepted
ghost-run_accepted a = held_sheet a.contents.now
