-- `tick::events::drive_all` meets its contract. The loop's invariant: the events passed are of tick t, and are put into the values. Assumes nothing.
use Rattle.std.proofs.Common.{◌+◌}
use Rattle.tick.proofs.Drive.{Put}
use Rattle.tick.proofs.events.drive_all.Given as goal

abbrev pub invariant-loop-i : goal.invariant-loop-i
invariant-loop-i l = Put l.drive l.t l.next l.initial.values (l.next + l.i) l.values
