-- `convert::convert` meets its contract: what is refused writes nothing, and a success is the converted sheet, whole. Assumes nothing.
use Rattle.std.proofs.Common.{◌≡◌, ℕ, ◌+◌, List, length, sym, ap, ◌∙◌, rules}
use Rattle.std.proofs.lemmas.Result.{err_from_is_err_and}
use Rattle.sheet.specs.Layout.{modules_counted}
use Rattle.sheet.specs.Bytes.{word_at}
use Rattle.format.specs.Made.{sheet_made}
use Rattle.format.proofs.Accepted.{accepted}
use Rattle.lent.proofs.Putting.{from_start}
use Rattle.convert.specs.Converted.{converted, records_place}
use Rattle.convert.proofs.Answers.{own_passed}
use Rattle.convert.proofs.Record.{least_size}
use Rattle.convert.proofs.Length.{records_within, short_sheet, converted-length}
use Rattle.convert.proofs.Making.{not_begun, not_made, made_of}
use Rattle.convert.proofs.convert.Goals as goal

pub invariant_of-conversion : goal.invariant_of-conversion
invariant_of-conversion c =
    let known = c.requires.0 in
    let s = c.args.sheet.now in
    let ok = accepted c.args.from known s c.requires.2 in
    let placed : 2 + c.word.result + 2 ≡ records_place s = ap (λ w. 2 + w + 2) c.word.ensures in
    let counted : c.word-2.result ≡ modules_counted s = c.word-2.ensures ∙ ap (λ w. word_at s (2 + w)) c.word.ensures in
    record {
      placed = placed;
      counted = counted;
      whole = least_size known;
      within = rw (placed, counted) (records_within known s ok);
      short = short_sheet known s ok;
    }

pub returns-in_err-kind_refusal : goal.returns-in_err-kind_refusal
returns-in_err-kind_refusal c =
    let a = c.args in
    let p = err_from_is_err_and c.from_residual.result c.from_residual.ensures.1 in
    rw (p.1, p.2)
    (not_begun (sheet_made (converted a.from a.to a.sheet.now)) a.output.now c.in_err-kind_refusal.field-0.0
    (c.in_err-kind_refusal.ensures ∙ sym (own_passed a.from a.to a.sheet.now c.requires.2)))

pub returns-in_err-written : goal.returns-in_err-written
returns-in_err-written c =
    let a = c.args in
    let s = a.sheet.now in
    let made : List ℕ = converted a.from a.to s in
    let long : length made ≡ c.length_needed.result = converted-length c.requires.0 s (accepted a.from c.requires.0 s c.requires.2) c.requires.1 ∙ sym c.length_needed.ensures in
    let p = err_from_is_err_and c.from_residual-in_err-written.result c.from_residual-in_err-written.ensures.1 in
    rw (p.1, p.2)
    (not_made (c.in_ok-kind_refusal.ensures ∙ sym (own_passed a.from a.to s c.requires.2)) (sheet_made made) a.output.now c.in_err-written.field-0.0 (c.in_err-written.ensures made long))

pub returns : goal.returns
returns c =
    let a = c.args in
    let s = a.sheet.now in
    let made : List ℕ = converted a.from a.to s in
    let long : length made ≡ c.length_needed.result = converted-length c.requires.0 s (accepted a.from c.requires.0 s c.requires.2) c.requires.1 ∙ sym c.length_needed.ensures in
    let printed = from_start c.new-out.ensures.start c.put_sheet.ensures in
    made_of (c.in_ok-kind_refusal.ensures ∙ sym (own_passed a.from a.to s c.requires.2)) (sheet_made made) a.output.now {at = c.put_sheet.new.out.at} (c.in_ok-written.ensures made long)
    (search rules)
