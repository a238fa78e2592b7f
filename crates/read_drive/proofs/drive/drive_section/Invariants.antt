-- The loop's invariant: what is known once k events are passed.
use Rattle.read_drive.proofs.Passed.{Passed}
use Rattle.read_drive.proofs.drive.drive_section.Given as goal

abbrev pub invariant-loop-k : goal.invariant-loop-k
invariant-loop-k l = Passed l.fn.e l.s l.count l.k l.records l.before l.begun
