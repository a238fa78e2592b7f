-- `reason::put_sort` meets its contract, sort by sort. Assumes nothing.
use Rattle.lent.specs.Letters.{letters}
use Rattle.reason.proofs.put_sort.Goals as goal

pub returns-in-Byte : goal.returns-in-Byte
unfolding letters
returns-in-Byte c = rw c.in-Byte.is c.put_all.ensures

pub returns-in-Node : goal.returns-in-Node
unfolding letters
returns-in-Node c = rw c.in-Node.is c.put_all-in-Node.ensures

pub returns-in-Tick : goal.returns-in-Tick
unfolding letters
returns-in-Tick c = rw c.in-Tick.is c.put_all-in-Tick.ensures

pub returns-in-Length : goal.returns-in-Length
unfolding letters
returns-in-Length c = rw c.in-Length.is c.put_all-in-Length.ensures

pub returns-in-Pulses : goal.returns-in-Pulses
unfolding letters
returns-in-Pulses c = rw c.in-Pulses.is c.put_all-in-Pulses.ensures

pub returns-in-Bare : goal.returns-in-Bare
unfolding letters
returns-in-Bare c = rw c.in-Bare.is c.put_all-in-Bare.ensures
