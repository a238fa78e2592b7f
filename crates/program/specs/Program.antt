-- Document 01, "The program and one complete run": the horizon and the sheet in the program's input, and what is printed of their run.
use Rattle.std.specs.Prelude.{List, ℕ, length, take, drop}
use Rattle.sheet.specs.Bytes.{long_at}
use Rattle.sheet.specs.Layout.{first_edition}
use Rattle.network.specs.Buffer.{buffer_after}
use Rattle.network.specs.Run.{Written, ran}
use Rattle.text.specs.Printing.{printed_text}

-- the horizon: 4 bytes, missing ones being 0
abbrev pub horizon_size : ℕ
horizon_size = 4

abbrev pub horizon_in : List ℕ → ℕ
horizon_in input = long_at input 0

-- then the sheet: document 01 counts 8,456 bytes for the longest, so 8,457 at most are read
abbrev pub sheet_limit : ℕ
sheet_limit = 8457

abbrev pub sheet_in : List ℕ → List ℕ
sheet_in input = take sheet_limit (drop horizon_size input)

-- the run of an input, a sheet of document 01's edition, over a lent listing of so many bytes
abbrev pub run_of : List ℕ → ℕ → Written
run_of input bytes = ran first_edition (sheet_in input) (horizon_in input) bytes

-- the listing afterwards, and what is printed
abbrev pub listing_of : List ℕ → List ℕ → List ℕ
listing_of input listing = buffer_after (run_of input (length listing)).records listing

unfoldable pub program_text : List ℕ → List ℕ → List ℕ
program_text input listing = printed_text (run_of input (length listing)).answer (listing_of input listing)
