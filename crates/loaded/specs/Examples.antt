-- Sheets that are loaded.
use Rattle.std.specs.Prelude.{List, [], ◌∷◌, ℕ}

-- Document 01's worked run loaded from seed 0 with no event more: its one input is 0 from tick 0 on.
abbrev pub worked_loaded : List ℕ
worked_loaded =
    2 ∷ 0 ∷ 4 ∷ 2
    ∷ 1 ∷ 0 ∷ 6 ∷ 0 ∷ 1 ∷ 0 ∷ 1 ∷ 3 ∷ 0
    ∷ 1 ∷ 0 ∷ 0 ∷ 0 ∷ 0 ∷ 0 ∷ 0 ∷ 0
    ∷ 2 ∷ 0 ∷ 0 ∷ 1 ∷ []

-- The sheet of three inputs whose start is unknown (start_sheet), loaded from seed 0 with three events more, at ticks 58, 70 and 87.
abbrev pub start_loaded : List ℕ
start_loaded =
    5 ∷ 0 ∷ 4 ∷ 4 ∷ 4 ∷ 3 ∷ 2
    ∷ 2 ∷ 0 ∷ 9 ∷ 4 ∷ 3 ∷ 2 ∷ 1 ∷ 1 ∷ 0 ∷ 6 ∷ 0 ∷ 4 ∷ 0 ∷ 2 ∷ 0 ∷ 0
    ∷ 6 ∷ 0 ∷ 0 ∷ 0 ∷ 0 ∷ 0 ∷ 0 ∷ 0 ∷ 0 ∷ 0 ∷ 0 ∷ 0 ∷ 1 ∷ 0 ∷ 0 ∷ 0 ∷ 0 ∷ 0 ∷ 2 ∷ 1
    ∷ 58 ∷ 0 ∷ 0 ∷ 0 ∷ 0 ∷ 0 ∷ 70 ∷ 0 ∷ 0 ∷ 0 ∷ 1 ∷ 0 ∷ 87 ∷ 0 ∷ 0 ∷ 0 ∷ 1 ∷ 1
    ∷ 5 ∷ 0 ∷ 0 ∷ 1 ∷ 2 ∷ 3 ∷ 4 ∷ []

-- A sheet without inputs: a constant drives its one node.
abbrev pub no_input : List ℕ
no_input = 1 ∷ 0 ∷ 0 ∷ 1 ∷ 0 ∷ 0 ∷ 1 ∷ 0 ∷ 0 ∷ 0 ∷ 0 ∷ 0 ∷ 0 ∷ 0 ∷ 1 ∷ 0 ∷ 0 ∷ []
