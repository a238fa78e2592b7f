-- `records::put_in_order`: the first positions have their records. Assumes nothing.
use Rattle.std.proofs.Common.{◌≡◌, take}
use Rattle.records.specs.Records.{in_order}
use Rattle.records.proofs.put_in_order.Given as goal

abbrev pub invariant-loop-k : goal.invariant-loop-k
invariant-loop-k l = take l.k l.to ≡ in_order l.from (take l.k l.order)
