-- `run::run` meets its contract: the horizon, the bytes' refusals, a zero-delay loop, and then the ticks. Assumes nothing.
use Rattle.std.proofs.Common.{◌≡◌, refl, sym, ap, ◌∙◌, subst, length, take}
use Rattle.std.proofs.lemmas.Result.{err_from_is_err_and}
use Rattle.sheet.specs.Layout.{sheet_of}
use Rattle.sheet.specs.Outcome.{finished}
use Rattle.sheet.specs.Refusal.{checked}
use Rattle.sheet.specs.Told.{answer_in}
use Rattle.sheet.specs.WorkingOrder.{in_working_order}
use Rattle.sheet.proofs.Held.{held_is}
use Rattle.format.specs.Accepted.{Accepted}
use Rattle.format.proofs.Accepted.{accepted}
use Rattle.network.specs.Run.{ran_sheet, Leaves}
use Rattle.network.proofs.WorkingOrder.{every_module_once}
use Rattle.reach.proofs.Held.{network_held}
use Rattle.records.proofs.Working.{working_records}
use Rattle.run.proofs.Begun.{in_range, within, range_told, bytes_refused, loops_checked, refusal_told, accepted_leaves}
use Rattle.run.proofs.run.Goals as goal

pub returns-in_err-horizon_answer : goal.returns-in_err-horizon_answer
returns-in_err-horizon_answer c =
    let a = c.args in
    let p = err_from_is_err_and c.from_residual.result c.from_residual.ensures.1 in
    rw (p.1, p.2) (range_told a.edition a.bytes.now a.horizon a.listing.now c.in_err-horizon_answer.field-0.0 c.in_err-horizon_answer.ensures)

pub returns-in_err-contents : goal.returns-in_err-contents
returns-in_err-contents c =
    let a = c.args in
    let s = a.bytes.now in
    let p = err_from_is_err_and c.from_residual-in_err-contents.result c.from_residual-in_err-contents.ensures.1 in
    rw (p.1, p.2)
    (refusal_told a.edition s a.horizon a.listing.now (in_range a.horizon c.in_ok-horizon_answer.ensures) c.in_err-contents.field-0.0 (bytes_refused a.edition s _ c.in_err-contents.ensures))

-- once the bytes' refusals are passed, the sheet is held, and the answer about loops is that of the check
pub returns-in_err-arranged : goal.returns-in_err-arranged
returns-in_err-arranged c =
    let a = c.args in
    let s = a.bytes.now in
    let S = sheet_of a.edition s in
    let read = c.in_ok-contents.ensures in
    let p = err_from_is_err_and c.from_residual-in_err-arranged.result c.from_residual-in_err-arranged.ensures.1 in
    rw (p.1, p.2)
    (refusal_told a.edition s a.horizon a.listing.now (in_range a.horizon c.in_ok-horizon_answer.ensures) c.in_err-arranged.field-0.0
    (loops_checked a.edition s read.0 ∙ sym (c.in_err-arranged.ensures S (rw c.listed.ensures (network_held S _ read.1.held))).answered))

pub run_accepted-requires : goal.run_accepted-requires
run_accepted-requires c =
    let a = c.args in
    let s = a.bytes.now in
    let S = sheet_of a.edition s in
    let read = c.in_ok-contents.ensures in
    let arranged = c.in_ok-arranged.ensures S (rw c.listed.ensures (network_held S _ read.1.held)) in
    let ok : checked a.edition s ≡ finished 0 = loops_checked a.edition s read.0 ∙ sym arranged.answered in
    let ticks = within a.horizon (in_range a.horizon c.in_ok-horizon_answer.ensures) in
    let contents = c.in_ok-contents.contents in
    let same = sym (held_is S contents read.1.held) in (
      refl,
      subst Accepted same (accepted a.edition c.requires s ok).sheet,
      ap (take contents.modules.count) c.in_working_order-records.ensures
          ∙ working_records S contents.modules.count ((every_module_once S).count ∙ sym read.1.held.counts_modules) read.1.held.modules arranged.ordered
          ∙ ap in_working_order same,
      ticks.0,
      ticks.1,
    )

pub returns : goal.returns
returns c =
    let a = c.args in
    let s = a.bytes.now in
    let S = sheet_of a.edition s in
    let read = c.in_ok-contents.ensures in
    let arranged = c.in_ok-arranged.ensures S (rw c.listed.ensures (network_held S _ read.1.held)) in
    let done = c.run_accepted in
    accepted_leaves a.edition s a.horizon a.listing.now (in_range a.horizon c.in_ok-horizon_answer.ensures) (loops_checked a.edition s read.0 ∙ sym arranged.answered)
    (subst (λ T. Leaves (ran_sheet T a.horizon (length a.listing.now)) a.listing.now (answer_in done.result) done.new.listing) (held_is S _ read.1.held) done.ensures)
