-- `timing::check_in` meets its contract: the bytes' refusals, and then a zero-delay loop. Assumes nothing.
use Rattle.std.proofs.Common.{sym, ◌∙◌}
use Rattle.std.proofs.lemmas.Result.{err_from_is_err_and}
use Rattle.sheet.specs.Layout.{sheet_of}
use Rattle.sheet.specs.Refusal.{bytes_rows, loops_section, rows, checked_by}
use Rattle.sheet.proofs.Rows.{passed_append}
use Rattle.sheet.proofs.Told.{stopped}
use Rattle.reach.proofs.Held.{network_held}
use Rattle.timing.proofs.check_in.Goals as goal

pub returns-in_err-contents : goal.returns-in_err-contents
unfolding checked_by rows
returns-in_err-contents c =
    let a = c.args in
    let s = a.bytes.now in
    let p = err_from_is_err_and c.from_residual.result c.from_residual.ensures.1 in
    rw (p.1, p.2) (sym (stopped _ (bytes_rows a.strict a.edition s) (loops_section (sheet_of a.edition s)) c.in_err-contents.ensures))

pub returns : goal.returns
unfolding checked_by rows
returns c =
    let a = c.args in
    let s = a.bytes.now in
    let S = sheet_of a.edition s in
    let read = c.in_ok-contents.ensures in
    c.loop_refusal.ensures S (rw c.listed.ensures (network_held S _ read.1.held))
    ∙ sym (passed_append (bytes_rows a.strict a.edition s) (loops_section S) read.0)
