-- The sentences of the examples, computed. Assumes nothing.
use mathlib.Core.List.{map}
use mathlib.Core.Path.{◌≡◌, refl}
use Rattle.lent.specs.Decimal.{digits}
use Rattle.lent.specs.Letters.{letters}
use Rattle.reason.specs.Reason.{reason}
use Rattle.sentence.specs.Sentence.{sentence}
use Rattle.sentence.specs.Examples.{examples}

pub examples_read : map (λ e. sentence e.answer) examples ≡ map (λ e. letters e.reads) examples
unfolding letters digits reason sentence
examples_read = refl
