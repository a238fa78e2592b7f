-- `Conversion::kind_refusal` meets its contract. The loop's invariant: no record passed has a kind that the other edition lacks. Assumes nothing.
use Rattle.std.proofs.Common.{◌≡◌}
use Rattle.sheet.specs.Enumerate.{each}
use Rattle.sheet.specs.Outcome.{finished}
use Rattle.sheet.specs.Refusal.{first}
use Rattle.convert.specs.Conversion.{kind_rows}
use Rattle.convert.proofs.conversion.Conversion.kind_refusal.Given as goal

abbrev pub invariant-loop-m : goal.invariant-loop-m
invariant-loop-m l = first (each l.m (kind_rows l.self.from l.self.to l.self.sheet.now)) ≡ finished 0
