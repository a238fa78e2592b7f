-- `sentence::sentence_length` meets its contract: the array takes every sentence whole. Assumes nothing.
use Rattle.std.proofs.Common.{◌≡◌, length, ap, arith}
use Rattle.sheet.specs.Outcome.{Outcome, outcome_of}
use Rattle.lent.specs.declared.Writer.{Writer}
use Rattle.lent.specs.Lent.{Puts}
use Rattle.lent.proofs.Putting.{from_start, whole}
use Rattle.sentence.specs.Sentence.{sentence}
use Rattle.sentence.proofs.Longest.{longest_sentence}
use Rattle.sentence.proofs.sentence_length.Goals as goal

place_after : (o : Outcome) {w₀ w₁ : Writer} → length w₀.text.now ≡ 200 → w₀.at ≡ 0 → Puts (sentence o) w₀ w₁ → w₁.at ≡ length (sentence o)
place_after o room start puts = (whole (from_start start puts) (omega (arith, room, longest_sentence o))).0

pub overflow_cast-result : goal.overflow_cast-result
overflow_cast-result c =
    let o = outcome_of c.args.answer in
    omega (arith, longest_sentence o, place_after o (ap length c.new-out.ensures.as_it_was) c.new-out.ensures.start c.put_sentence.ensures)

pub returns : goal.returns
returns c = place_after (outcome_of c.args.answer) (ap length c.new-out.ensures.as_it_was) c.new-out.ensures.start c.put_sentence.ensures
