-- `timing::pulses_in` meets its contract: what is refused before the run, what the run refuses, and then the report. Assumes nothing.
use Rattle.std.proofs.Common.{sym}
use Rattle.std.proofs.lemmas.Result.{err_from_is_err_and}
use Rattle.pulses.proofs.Answers.{not_run, not_finished, reported}
use Rattle.timing.proofs.pulses_in.Goals as goal

pub returns-in_err-range_refusal : goal.returns-in_err-range_refusal
returns-in_err-range_refusal c =
    let a = c.args in
    let p = err_from_is_err_and c.from_residual.result c.from_residual.ensures.1 in
    rw (p.1, p.2) (not_run c.requires a.sheet.now a.horizon a.width a.listing.now a.report.now _ c.in_err-range_refusal.ensures)

pub returns-in_err-records : goal.returns-in_err-records
returns-in_err-records c =
    let a = c.args in
    let p = err_from_is_err_and c.from_residual-in_err-records.result c.from_residual-in_err-records.ensures.1 in
    rw (p.1, p.2) (not_finished c.requires a.sheet.now a.horizon a.width a.listing.now a.report.now (sym c.in_ok-range_refusal.ensures) _ c.in_err-records.ensures)

pub returns : goal.returns
returns c =
    let a = c.args in
    reported c.requires a.sheet.now a.horizon a.width a.listing.now a.report.now (sym c.in_ok-range_refusal.ensures) c.in_ok-records.ensures c.report.ensures
