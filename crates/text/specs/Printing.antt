-- Document 01, "The program and one complete run", with document 02's W-201 and W-204: what is printed of an answer and its listing.
use Rattle.std.specs.Prelude.{List, [], ◌∷◌, ◌++◌, ℕ, ◌*◌}
use Rattle.level.specs.Level.{printed}
use Rattle.sheet.specs.Enumerate.{each}
use Rattle.sheet.specs.Outcome.{Outcome, finished, refused}
use Rattle.network.specs.Ends.{Ended}
use Rattle.network.specs.Buffer.{record_size, record_in}
use Rattle.lent.specs.Decimal.{decimal}
use Rattle.sentence.specs.Sentence.{sentence}

abbrev pub blank : ℕ
blank = 32

abbrev pub newline : ℕ
newline = 10

-- tick, node, value, end: numbers in decimal and the value as 0, 1, X or Z
abbrev pub record_line : Ended → List ℕ
record_line r =
    decimal r.start.tick
    ++ blank ∷ decimal r.start.node
    ++ blank ∷ printed r.start.value ∷ blank ∷ decimal r.end
    ++ newline ∷ []

-- the record of a number in the listing
abbrev pub listed_record : List ℕ → ℕ → Ended
listed_record listing i = record_in listing (record_size * i)

-- a line per record, of as many as are counted
abbrev pub record_lines : ℕ → List ℕ → List ℕ
record_lines count listing = each count (λ i. record_line (listed_record listing i))

-- a finished run's records; after a refusal, records are not printed
abbrev pub lines_after : Outcome → List ℕ → List ℕ
lines_after (finished count) listing = record_lines count listing
lines_after (refused number place count) listing = []

-- the answer's sentence in the first line, then a line per record
unfoldable pub printed_text : Outcome → List ℕ → List ℕ
printed_text o listing = sentence o ++ newline ∷ lines_after o listing
