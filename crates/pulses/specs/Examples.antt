-- A sheet whose one node is an input, driven to 0 at tick 0, Z at tick 2, X at tick 3 and 1 at tick 5.
use Rattle.std.specs.Prelude.{List, [], ◌∷◌, ℕ}

abbrev pub pulse_sheet : List ℕ
pulse_sheet =
    1 ∷ 0 ∷ 4
    ∷ 0 ∷ 0
    ∷ 4 ∷ 0 ∷ 0 ∷ 0 ∷ 0 ∷ 0 ∷ 0 ∷ 0 ∷ 2 ∷ 0 ∷ 0 ∷ 0 ∷ 0 ∷ 3 ∷ 3 ∷ 0 ∷ 0 ∷ 0 ∷ 0 ∷ 2 ∷ 5 ∷ 0 ∷ 0 ∷ 0 ∷ 0 ∷ 1
    ∷ 1 ∷ 0 ∷ 0 ∷ []
