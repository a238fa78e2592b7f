-- `read_modules::section::module_records` meets its contract: the count, and then the records one by one. Assumes nothing.
use mathlib.Core.Path.{refl}
use Prim.Native.Nat.{◌≤◌}
use native.Mathlib.Omega.{arith}
use Rattle.std.proofs.lemmas.List.{take-replicate}
use Rattle.std.proofs.lemmas.Result.{err_from_is_err_and}
use Rattle.sheet.specs.declared.refusal.Refusal.TheVariants.{BytesEnd}
use Rattle.sheet.specs.Sheet.{no_module}
use Rattle.sheet.proofs.Told.{stopped}
use Rattle.read_modules.proofs.ModuleRows.{none_reached, all_reached, record_refused, module_short, module_whole, one_more_read}
use Rattle.read_modules.proofs.section.module_records.Goals as goal

pub returns-in_err-count : goal.returns-in_err-count
returns-in_err-count c =
    let met = rw c.requires.0 at c.in_err-count.ensures in
    let p = err_from_is_err_and c.from_residual.result c.from_residual.ensures.1 in
    rw (p.1, p.2) (stopped _ _ _ met)

pub loop-record-init : goal.loop-record-init
loop-record-init c =
    let h : c.in_ok-count.count ≤ 256 = c.in_ok-count.ensures.1.1 in
    rw (take-replicate c.in_ok-count.count 256 no_module h) (none_reached _ _ c.requires.0 (omega arith) c.in_ok-count.ensures)

pub returns-in_default : goal.returns-in_default
returns-in_default c =
    let l = c.loop-record in
    record_refused l.invariant (omega arith) (BytesEnd l.at) (module_short l.invariant c.in_default.ensures)

pub returns-in_err-record_refusal : goal.returns-in_err-record_refusal
returns-in_err-record_refusal c =
    let l = c.loop-record in
    let met = module_whole l.invariant c.in-Some.ensures c.requires.1 c.in_err-record_refusal.ensures in
    let p = err_from_is_err_and c.from_residual-in_err-record_refusal.result c.from_residual-in_err-record_refusal.ensures.1 in
    rw (p.1, p.2) (record_refused l.invariant (omega arith) _ met)

pub loop-record-preserved : goal.loop-record-preserved
loop-record-preserved c =
    let l = c.loop-record in
    let clear = module_whole l.invariant c.in-Some.ensures c.requires.1 c.in_ok-record_refusal.ensures in
    one_more_read l.invariant c.in-Some.ensures (omega arith) (omega arith) (omega arith) clear

pub returns : goal.returns
returns c =
    let l = c.loop-record in
    all_reached l.invariant (omega arith) (omega arith) _ refl refl refl refl
