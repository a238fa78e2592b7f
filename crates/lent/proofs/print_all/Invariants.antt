-- `lent::print_all` meets its contract. The loop's invariant: the bytes passed are printed. Assumes nothing.
use Rattle.std.proofs.Common.{take}
use Rattle.lent.specs.Lent.{Prints}
use Rattle.lent.proofs.print_all.Given as goal

abbrev pub invariant-loop-byte : goal.invariant-loop-byte
invariant-loop-byte l = Prints (take l.byte-index l.bytes) l.initial.text l.at l.text l.to
