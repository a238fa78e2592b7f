-- `read_modules::section::module_records` meets its contract. The loop's invariant: the first records are read. Assumes nothing.
use Rattle.read_modules.proofs.ModuleRows.{Reached}
use Rattle.read_modules.proofs.section.module_records.Given as goal

abbrev pub invariant-loop-record : goal.invariant-loop-record
invariant-loop-record l = Reached l.e l.s l.count l.record-index l.at l.record-items l.driven
