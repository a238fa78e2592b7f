-- `gate_tables::put_entries` is safe: no kind has more than three inputs. Assumes nothing.
use Rattle.std.proofs.Common.{arith}
use Rattle.level.proofs.Gates.{most_inputs}
use Rattle.gate_tables.proofs.put_entries.Goals as goal

pub overflow_sub-n : goal.overflow_sub-n
overflow_sub-n c = omega (arith, c.inputs-n.ensures 0, most_inputs c.args.kind 0)
