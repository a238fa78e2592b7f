-- `reader::read_sheet` meets its contract: the four sections' rows are all the bytes' rows, and the reader keeps its bytes. Assumes nothing.
use native.Mathlib.Omega.{arith}
use Rattle.std.proofs.lemmas.Result.{err_from_is_err_and}
use Rattle.reader.proofs.SectionRows.{stopped_in, past_none, past_nodes, past_modules, past_drive, past_all}
use Rattle.reader.proofs.Whole.{sheet_held}
use Rattle.reader.proofs.read_sheet.Goals as goal

pub returns-in_err-nodes : goal.returns-in_err-nodes
returns-in_err-nodes c =
    let a = c.args in
    let p = err_from_is_err_and c.from_residual.result c.from_residual.ensures.1 in
    rw (p.1, p.2) (stopped_in a.strict a.e a.bytes.now 0 _ (omega arith) (past_none _ _ _) c.in_err-nodes.ensures.read)

pub returns-in_err-read : goal.returns-in_err-read
returns-in_err-read c =
    let a = c.args in
    let p = err_from_is_err_and c.from_residual-in_err-read.result c.from_residual-in_err-read.ensures.1 in
    let met = rw c.nodes.ensures.lent at c.in_err-read.ensures.read in
    let past = past_nodes a.strict a.e a.bytes.now c.in_ok-nodes.ensures.read.0 in
    rw (p.1, p.2) (stopped_in a.strict a.e a.bytes.now 1 _ (omega arith) past met)

pub returns-in_err-drive : goal.returns-in_err-drive
returns-in_err-drive c =
    let a = c.args in
    let p = err_from_is_err_and c.from_residual-in_err-drive.result c.from_residual-in_err-drive.ensures.1 in
    let read = rw c.nodes.ensures.lent at c.in_ok-read.ensures.read in
    let met = rw (c.modules.ensures.lent, c.nodes.ensures.lent) at c.in_err-drive.ensures.read in
    let past = past_modules a.strict a.e a.bytes.now c.in_ok-nodes.ensures.read.0 read.0 in
    rw (p.1, p.2) (stopped_in a.strict a.e a.bytes.now 2 _ (omega arith) past met)

pub returns-in_err-watched : goal.returns-in_err-watched
returns-in_err-watched c =
    let a = c.args in
    let p = err_from_is_err_and c.from_residual-in_err-watched.result c.from_residual-in_err-watched.ensures.1 in
    let read = rw c.nodes.ensures.lent at c.in_ok-read.ensures.read in
    let drive = rw (c.modules.ensures.lent, c.nodes.ensures.lent) at c.in_ok-drive.ensures.read in
    let met = rw (c.drive.ensures.lent, c.modules.ensures.lent, c.nodes.ensures.lent) at c.in_err-watched.ensures in
    let past = past_drive a.strict a.e a.bytes.now c.in_ok-nodes.ensures.read.0 read.0 drive.0 in
    rw (p.1, p.2) (stopped_in a.strict a.e a.bytes.now 3 _ (omega arith) past met)

pub returns : goal.returns
returns c =
    let a = c.args in
    let nodes = c.in_ok-nodes.ensures.read in
    let read = rw c.nodes.ensures.lent at c.in_ok-read.ensures.read in
    let drive = rw (c.modules.ensures.lent, c.nodes.ensures.lent) at c.in_ok-drive.ensures.read in
    let watched = rw (c.drive.ensures.lent, c.modules.ensures.lent, c.nodes.ensures.lent) at c.in_ok-watched.ensures in
    (past_all a.strict a.e a.bytes.now nodes.0 read.0 drive.0 watched.0, sheet_held a.e a.bytes.now _ nodes.1.0 read.1.0.section drive.1.0 watched.1)
