-- Document 02, W-201: an answer as a sentence of fixed phrases and decimal numbers: what is wrong, then the place with its sort,
-- then the count of records.
use Rattle.std.specs.Prelude.{List, ◌++◌, ℕ, ◌^◌, ◌<◌}
use Prim.Native.String.{String}
use Rattle.sheet.specs.Outcome.{Outcome, finished, refused}
use Rattle.lent.specs.Decimal.{decimal}
use Rattle.lent.specs.Letters.{letters}
use Rattle.reason.specs.Reason.{reason}

-- how a finished call's sentence begins, before its count, and a refusal's; and what stands before a refusal's count of records
abbrev pub has_finished : String
has_finished = "finished, with a count of "

abbrev pub is_refused : String
is_refused = "refused: "

abbrev pub records_written : String
records_written = "; records written: "

-- a finished call has a phrase of its own and its count, whatever it has counted; a refusal's count is of records
unfoldable pub sentence : Outcome → List ℕ
sentence (finished count) = letters has_finished ++ decimal count
sentence (refused number place count) = letters is_refused ++ reason number ++ decimal place ++ letters records_written ++ decimal count

-- numbers, places and counts of 32 bits, as every answer has them
abbrev pub OfWords : Outcome → Type 0
OfWords (finished count) = count < 2 ^ 32
OfWords (refused number place count) = (number < 2 ^ 32) × (place < 2 ^ 32) × (count < 2 ^ 32)
