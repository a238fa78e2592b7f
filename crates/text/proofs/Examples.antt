-- What is printed of the worked run and of a refusal, computed. Assumes nothing.
use mathlib.Core.Path.{◌≡◌, refl}
use Rattle.sheet.specs.Enumerate.{each}
use Rattle.sheet.specs.Outcome.{finished, refused}
use Rattle.lent.specs.Decimal.{digits}
use Rattle.lent.specs.Letters.{letters}
use Rattle.reason.specs.Reason.{reason}
use Rattle.sentence.specs.Sentence.{sentence}
use Rattle.text.specs.Printing.{printed_text}
use Rattle.text.specs.Examples.{worked_listing, worked_text, refusal_text}

pub worked-printed : printed_text (finished 6) worked_listing ≡ letters worked_text
unfolding printed_text sentence letters digits each
worked-printed = refl

-- the records that a refusal left are not printed
pub refusal_printed : printed_text (refused 19 11 5) worked_listing ≡ letters refusal_text
unfolding printed_text reason sentence letters digits
refusal_printed = refl
