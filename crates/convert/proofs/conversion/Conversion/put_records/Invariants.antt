-- `Conversion::put_records` meets its contract. The loop's invariant: the records passed are put. Assumes nothing.
use Rattle.sheet.specs.Enumerate.{each}
use Rattle.sheet.specs.Layout.{module_place}
use Rattle.lent.specs.Lent.{Puts}
use Rattle.convert.specs.Converted.{converted_record}
use Rattle.convert.proofs.conversion.Conversion.put_records.Given as goal

abbrev pub invariant-loop-m : goal.invariant-loop-m
invariant-loop-m l = Puts (each l.m (λ m. converted_record l.self.from l.self.to l.self.sheet.now (module_place l.self.from l.self.sheet.now m))) l.initial.out l.out
