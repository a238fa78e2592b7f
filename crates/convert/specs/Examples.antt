-- Sheets in both editions.
use Rattle.std.specs.Prelude.{List, [], ◌∷◌, ℕ}

-- document 01's worked run in the second edition: its one record has a third input of 0
abbrev pub worked_in_second : List ℕ
worked_in_second =
    2 ∷ 0 ∷ 4 ∷ 2
    ∷ 1 ∷ 0 ∷ 6 ∷ 0 ∷ 1 ∷ 0 ∷ 1 ∷ 0 ∷ 3 ∷ 0
    ∷ 2 ∷ 0 ∷ 0 ∷ 0 ∷ 0 ∷ 0 ∷ 0 ∷ 0 ∷ 5 ∷ 0 ∷ 0 ∷ 0 ∷ 0 ∷ 1
    ∷ 2 ∷ 0 ∷ 0 ∷ 1 ∷ []

-- A sheet of the second edition: an inverter drives node 1, and gates of three inputs, AND and OR, nodes 2 and 3.
abbrev pub last_kinds : List ℕ
last_kinds =
    4 ∷ 0 ∷ 4 ∷ 2 ∷ 2 ∷ 2
    ∷ 3 ∷ 0 ∷ 2 ∷ 0 ∷ 1 ∷ 0 ∷ 0 ∷ 0 ∷ 1 ∷ 0 ∷ 10 ∷ 0 ∷ 2 ∷ 0 ∷ 1 ∷ 1 ∷ 1 ∷ 0 ∷ 11 ∷ 0 ∷ 3 ∷ 0 ∷ 1 ∷ 2 ∷ 1 ∷ 0
    ∷ 0 ∷ 0 ∷ 1 ∷ 0 ∷ 3 ∷ []

-- The same with an inverter in place of each of them.
abbrev pub first_kinds : List ℕ
first_kinds =
    4 ∷ 0 ∷ 4 ∷ 2 ∷ 2 ∷ 2
    ∷ 3 ∷ 0 ∷ 2 ∷ 0 ∷ 1 ∷ 0 ∷ 0 ∷ 0 ∷ 1 ∷ 0 ∷ 2 ∷ 0 ∷ 2 ∷ 0 ∷ 0 ∷ 0 ∷ 1 ∷ 0 ∷ 2 ∷ 0 ∷ 3 ∷ 0 ∷ 0 ∷ 0 ∷ 1 ∷ 0
    ∷ 0 ∷ 0 ∷ 1 ∷ 0 ∷ 3 ∷ []

-- and in the first edition
abbrev pub first_kinds_in_first : List ℕ
first_kinds_in_first =
    4 ∷ 0 ∷ 4 ∷ 2 ∷ 2 ∷ 2
    ∷ 3 ∷ 0 ∷ 2 ∷ 0 ∷ 1 ∷ 0 ∷ 0 ∷ 1 ∷ 0 ∷ 2 ∷ 0 ∷ 2 ∷ 0 ∷ 0 ∷ 1 ∷ 0 ∷ 2 ∷ 0 ∷ 3 ∷ 0 ∷ 0 ∷ 1 ∷ 0
    ∷ 0 ∷ 0 ∷ 1 ∷ 0 ∷ 3 ∷ []
