-- `sentence::describe` meets its contract: the text is too short, or it takes the sentence whole. Assumes nothing.
use borrow.Author.Tests.{lt-ltb, le-ltb}
use Rattle.std.proofs.Common.{rules}
use Rattle.sentence.specs.Describing.{described, described_text}
use Rattle.lent.proofs.Putting.{from_start, whole}
use Rattle.sentence.proofs.describe.Goals as goal

pub returns-then-text-needed : goal.returns-then-text-needed
unfolding described described_text
returns-then-text-needed c =
    let short = rw c.sentence_length-needed.ensures at c.if-text-needed.true in
    record {
      answered = rw (lt-ltb _ _ short, ← c.sentence_length-needed.ensures) c.from.ensures;
      left = rw (lt-ltb _ _ short);
    }

pub returns : goal.returns
unfolding described described_text
returns c =
    let fits = rw c.sentence_length-needed.ensures at c.if-text-needed.false in
    let printed = rw c.new.ensures.as_it_was at (from_start c.new.ensures.start c.put_sentence.ensures) in
    let now = (whole printed fits).1 in
    record {
      answered = rw (le-ltb _ _ fits, c.sentence_length-needed.ensures);
      left = rw (le-ltb _ _ fits) (search rules);
    }
