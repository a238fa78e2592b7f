-- Document 01, "Modules", with document 02's W-202 and W-205: the rules of the gates over the list of their inputs' values, two or three
-- of them by one text, and a memory's set of values.
use Rattle.std.specs.Prelude.{Bool, true, false, ◌&&◌, ◌||◌, not, List, [], ◌∷◌, map, ℕ, ◌/◌, ◌%◌, ◌^◌, eqb, get_or, take, if◌then◌else◌}
use Rattle.level.specs.Level.{low, high, unknown, none}

-- an input of Z counts as X
abbrev pub counted : ℕ → ℕ
counted a = if eqb a none then unknown else a

-- the value of the input at a place: 0 is the first, 1 the second, 2 the third
abbrev pub input_at : List ℕ → ℕ → ℕ
input_at inputs i = get_or inputs i unknown

-- one of the inputs has the value, every one has
abbrev pub some : ℕ → List ℕ → Bool
some v [] = false
some v (a ∷ rest) = eqb a v || some v rest

abbrev pub every : ℕ → List ℕ → Bool
every v [] = true
every v (a ∷ rest) = eqb a v && every v rest

-- an odd count of the inputs are 1: of two that are 0 or 1, if they differ
abbrev pub odd_ones : List ℕ → Bool
odd_ones [] = false
odd_ones (a ∷ rest) = if eqb a high then not (odd_ones rest) else odd_ones rest

-- 0 gives 1, 1 gives 0, X gives X
abbrev pub inverse : ℕ → ℕ
inverse a = if eqb a low then high else if eqb a high then low else unknown

-- that input
abbrev pub buffer : List ℕ → ℕ
buffer inputs = counted (input_at inputs 0)

abbrev pub inverter : List ℕ → ℕ
inverter inputs = inverse (input_at inputs 0)

-- 0 if one is 0; 1 if all are 1; else X
abbrev pub and : List ℕ → ℕ
and inputs = if some low inputs then low else if every high inputs then high else unknown

-- 1 if one is 1; 0 if all are 0; else X
abbrev pub or : List ℕ → ℕ
or inputs = if some high inputs then high else if every low inputs then low else unknown

-- X if one is X; else 1 for an odd count of ones, 0 for an even one
abbrev pub xor : List ℕ → ℕ
xor inputs = if some unknown (map counted inputs) then unknown else if odd_ones inputs then high else low

-- the inverter of AND, of OR
abbrev pub nand : List ℕ → ℕ
nand inputs = inverse (and inputs)

abbrev pub nor : List ℕ → ℕ
nor inputs = inverse (or inputs)

-- the second input is the clock. 1: the inverter of the first; 0: Z; X or Z: X
abbrev pub clocked_inverter : List ℕ → ℕ
clocked_inverter inputs = if eqb (input_at inputs 1) high then inverter inputs else if eqb (input_at inputs 1) low then none else unknown

-- the value that all have, where all are 0 or all are 1; else X
abbrev pub common : List ℕ → ℕ
common inputs = if every low inputs then low else if every high inputs then high else unknown

-- the third input chooses. 1: the second; 0: the first; else their common value when both are 0 or both are 1, else X.
-- A chosen Z becomes X
abbrev pub multiplexer : List ℕ → ℕ
multiplexer inputs =
    if eqb (input_at inputs 2) high
    then counted (input_at inputs 1)
    else if eqb (input_at inputs 2) low then counted (input_at inputs 0) else common (take 2 inputs)

-- a memory's parameter is a set of values, bit v (weight 2 to the power v) standing for value v
abbrev pub member : ℕ → ℕ → Bool
member set v = eqb (set / 2 ^ v % 2) 1
