-- A sentence is one line. Assumes nothing.
use Rattle.sheet.specs.Outcome.{Outcome, finished, refused}
use Rattle.lent.specs.Decimal.{decimal}
use Rattle.lent.specs.Letters.{letters}
use Rattle.lent.proofs.Shown.{Shown, of_test, of_number, joined}
use Rattle.reason.specs.Reason.{reason}
use Rattle.reason.proofs.OneLine.{of_reason}
use Rattle.sentence.specs.Sentence.{has_finished, is_refused, records_written, sentence}

pub one_line : (o : Outcome) → Shown (sentence o)
unfolding sentence letters
one_line (finished count) = joined (letters has_finished) (decimal count) (of_test (letters has_finished) tt) (of_number count)
one_line (refused number place count) =
    joined _ (decimal count)
    (joined _ (letters records_written) (joined _ (decimal place) (joined (letters is_refused) (reason number) (of_test (letters is_refused) tt) (of_reason number)) (of_number place)) (of_test (letters records_written) tt))
    (of_number count)
