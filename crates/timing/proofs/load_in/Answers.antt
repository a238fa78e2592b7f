-- `timing::load_in` meets its contract: what the check refuses, and then the load. Assumes nothing.
use Rattle.std.proofs.Common.{sym}
use Rattle.std.proofs.lemmas.Result.{err_from_is_err_and}
use Rattle.loaded.proofs.Answers.{not_accepted}
use Rattle.timing.proofs.load_in.Goals as goal

pub returns-in_err-check_in : goal.returns-in_err-check_in
returns-in_err-check_in c =
    let a = c.args in
    let p = err_from_is_err_and c.from_residual.result c.from_residual.ensures.1 in
    rw (p.1, p.2) (not_accepted a.edition a.sheet.now a.n a.seed a.output.now _ (sym c.in_err-check_in.ensures))
