-- `sentence::put_finished` meets its contract: the phrase, and then the count. Assumes nothing.
use Rattle.lent.specs.Letters.{letters}
use Rattle.sentence.specs.Sentence.{sentence}
use Rattle.lent.proofs.Putting.{puts_then}
use Rattle.sentence.proofs.put_finished.Goals as goal

pub returns : goal.returns
unfolding letters sentence
returns c = puts_then c.put_all.ensures c.put_decimal.ensures
