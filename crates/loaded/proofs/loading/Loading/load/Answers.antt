-- `Loading::load` meets its contract: what is refused writes nothing, and a success is the loaded sheet, whole. Assumes nothing.
use Rattle.std.proofs.Common.{◌++◌, List, ℕ, ◌≡◌, arith, rules, length, sym, ◌∙◌}
use Rattle.std.proofs.lemmas.Result.{err_from_is_err_and}
use Rattle.format.specs.Made.{sheet_made}
use Rattle.lent.proofs.Putting.{from_start}
use Rattle.draw.specs.Drive.{drawn_drive, drive_bytes}
use Rattle.loaded.proofs.Answers.{drawn_few}
use Rattle.loaded.proofs.Making.{not_made, made_of}
use Rattle.loaded.proofs.Length.{parts_length}
use Rattle.loaded.proofs.loading.Loading.load.Goals as goal

pub length_answer-requires : goal.length_answer-requires
length_answer-requires c =
    let self = c.args.self.now in
    omega (arith, c.length.ensures, self.short, drawn_few (length self.inputs.now) self.n c.in_ok-drawn_answer.ensures)

pub put_sheet-requires : goal.put_sheet-requires
put_sheet-requires c = let self = c.args.self.now in drawn_few (length self.inputs.now) self.n c.in_ok-drawn_answer.ensures

pub returns-in_err-written : goal.returns-in_err-written
returns-in_err-written c =
    let self = c.args.self.now in
    let made : List ℕ = self.before.now ++ drive_bytes (drawn_drive self.inputs.now self.seed self.n) ++ self.after.now in
    let long : length made ≡ c.length.result = parts_length self.before.now self.after.now self.inputs.now self.seed self.n ∙ sym c.length.ensures in
    let p = err_from_is_err_and c.from_residual-in_err-written.result c.from_residual-in_err-written.ensures.1 in
    rw (p.1, p.2) (not_made c.in_ok-drawn_answer.ensures (sheet_made made) c.args.output.now c.in_err-written.field-0.0 (c.in_err-written.ensures made long))

pub returns : goal.returns
returns c =
    let self = c.args.self.now in
    let made : List ℕ = self.before.now ++ drive_bytes (drawn_drive self.inputs.now self.seed self.n) ++ self.after.now in
    let long : length made ≡ c.length.result = parts_length self.before.now self.after.now self.inputs.now self.seed self.n ∙ sym c.length.ensures in
    let printed = from_start c.new-out.ensures.start c.put_sheet.ensures in
    made_of c.in_ok-drawn_answer.ensures (sheet_made made) c.args.output.now {at = c.put_sheet.new.out.at} (c.in_ok-written.ensures made long) (search rules)
