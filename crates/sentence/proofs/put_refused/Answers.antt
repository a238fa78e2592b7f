-- `sentence::put_refused` meets its contract: what is wrong, the place and the count, one after another. Assumes nothing.
use Rattle.lent.specs.Letters.{letters}
use Rattle.sentence.specs.Sentence.{sentence}
use Rattle.lent.proofs.Putting.{puts_then}
use Rattle.sentence.proofs.put_refused.Goals as goal

pub returns : goal.returns
unfolding letters sentence
returns c =
    puts_then
    (puts_then
    (puts_then
    (puts_then c.put_all.ensures c.put_reason.ensures)
    c.put_decimal.ensures)
    c.put_all-2.ensures)
    c.put_decimal-2.ensures
