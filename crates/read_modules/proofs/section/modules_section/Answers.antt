-- `read_modules::section::modules_section` meets its contract: the section's refusal stands, or the nodes' bytes decide. Assumes nothing.
use mathlib.Core.Path.{sym, ◌∙◌}
use native.Mathlib.Omega.{arith}
use Rattle.std.proofs.lemmas.Result.{err_from_is_err_and}
use Rattle.sheet.specs.Refusal.{modules_section}
use Rattle.sheet.proofs.Rows.{passed_append}
use Rattle.sheet.proofs.Told.{stopped}
use Rattle.read_modules.proofs.StartRows.{start_rows_lem}
use Rattle.read_modules.proofs.section.modules_section.Goals as goal

pub returns-in_err-read : goal.returns-in_err-read
returns-in_err-read c =
    let p = err_from_is_err_and c.from_residual.result c.from_residual.ensures.1 in
    rw (p.1, p.2) (stopped _ (modules_section c.args.e c.args.s.now) _ c.in_err-read.ensures)

pub returns-in_err-first_byte_refusal : goal.returns-in_err-first_byte_refusal
returns-in_err-first_byte_refusal c =
    let known = c.in_ok-read.ensures in
    let starts = start_rows_lem c.args.e c.args.s.now c.requires.1 c.listed.ensures (omega arith) _ known.1.driven in
    let p = err_from_is_err_and c.from_residual-in_err-first_byte_refusal.result c.from_residual-in_err-first_byte_refusal.ensures.1 in
    rw (p.1, p.2) (passed_append (modules_section c.args.e c.args.s.now) _ known.0 ∙ sym starts ∙ sym c.in_err-first_byte_refusal.ensures)

pub returns : goal.returns
returns c =
    let known = c.in_ok-read.ensures in
    let starts = start_rows_lem c.args.e c.args.s.now c.requires.1 c.listed.ensures (omega arith) _ known.1.driven in
    (passed_append (modules_section c.args.e c.args.s.now) _ known.0 ∙ sym starts ∙ sym c.in_ok-first_byte_refusal.ensures, known.1)
