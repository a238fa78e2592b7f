-- How long a sentence is at most. Assumes nothing.
use mathlib.Core.Path.{◌≡◌}
use Prim.Native.Nat.{ℕ, ◌+◌, ◌≤◌}
use native.Mathlib.Omega.{arith}
use lib.ListN.{length, length-append}
use Rattle.sheet.specs.Outcome.{Outcome, finished, refused}
use Rattle.lent.specs.Decimal.{decimal}
use Rattle.lent.specs.Letters.{letters}
use Rattle.lent.proofs.Digits.{at_most_ten}
use Rattle.reason.proofs.Longest.{reason-length}
use Rattle.sentence.specs.Sentence.{sentence}

pub finished_length : (count : ℕ) → length (sentence (finished count)) ≡ 26 + length (decimal count)
unfolding sentence letters
finished_length count = simp length-append

pub longest_sentence : (o : Outcome) → length (sentence o) ≤ 200
unfolding sentence letters
longest_sentence (finished count) = omega (arith, finished_length count, at_most_ten 10 count)
longest_sentence (refused number place count) = simp length-append (omega (arith, reason-length number, at_most_ten 10 place, at_most_ten 10 count))
