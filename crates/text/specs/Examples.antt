-- Document 01, "The program and one complete run": the listing's bytes and what is printed of it, the first line as document 02's
-- W-201 has it, the records as W-204 has them.
use Rattle.std.specs.Prelude.{List, [], ◌∷◌, ℕ}
use Prim.Native.String.{String}

-- six records of the worked run
abbrev pub worked_listing : List ℕ
worked_listing =
    0 ∷ 0 ∷ 0 ∷ 0 ∷ 0 ∷ 0 ∷ 5 ∷ 0 ∷ 0 ∷ 0
    ∷ 0 ∷ 0 ∷ 0 ∷ 0 ∷ 1 ∷ 2 ∷ 3 ∷ 0 ∷ 0 ∷ 0
    ∷ 3 ∷ 0 ∷ 0 ∷ 0 ∷ 1 ∷ 1 ∷ 8 ∷ 0 ∷ 0 ∷ 0
    ∷ 5 ∷ 0 ∷ 0 ∷ 0 ∷ 0 ∷ 1 ∷ 12 ∷ 0 ∷ 0 ∷ 0
    ∷ 8 ∷ 0 ∷ 0 ∷ 0 ∷ 1 ∷ 0 ∷ 11 ∷ 0 ∷ 0 ∷ 0
    ∷ 11 ∷ 0 ∷ 0 ∷ 0 ∷ 1 ∷ 1 ∷ 12 ∷ 0 ∷ 0 ∷ 0 ∷ []

abbrev pub worked_text : String
worked_text = "finished, with a count of 6\n0 0 0 5\n0 1 X 3\n3 1 1 8\n5 0 1 12\n8 1 0 11\n11 1 1 12\n"

abbrev pub refusal_text : String
refusal_text = "refused: the listing has no room for all records of a tick, at tick 11; records written: 5\n"
