-- Document 01, "Examples": the cells marked * to be proved, which join the gates' in one table, and those of inputs that start unknown,
-- of gates of three inputs and of nodes with several drivers, as document 02's W-203, W-205 and W-209 have them.
use Rattle.std.specs.Prelude.{List, [], ◌∷◌, ◌++◌, ℕ, length}
use Rattle.level.specs.Level.{low, high, unknown, none}
use Rattle.level.specs.Examples.{Example, is, gate_examples, join_examples}
use Rattle.sheet.specs.Layout.{first_edition, second_edition, sheet_of}
use Rattle.network.specs.Listing.{pending}
use Rattle.network.specs.Run.{cells_of}

-- the worked run's sheet: node 0 is an input, and a NAND of delay 3 drives node 1 from node 0 and node 1
abbrev pub worked_sheet : List ℕ
worked_sheet =
    2 ∷ 0 ∷ 4 ∷ 2
    ∷ 1 ∷ 0 ∷ 6 ∷ 0 ∷ 1 ∷ 0 ∷ 1 ∷ 3 ∷ 0
    ∷ 2 ∷ 0 ∷ 0 ∷ 0 ∷ 0 ∷ 0 ∷ 0 ∷ 0 ∷ 5 ∷ 0 ∷ 0 ∷ 0 ∷ 0 ∷ 1
    ∷ 2 ∷ 0 ∷ 0 ∷ 1 ∷ []

-- a memory with set {1} and delay 1 drives node 2; both its inputs, nodes 0 and 1, go from 0 to 1 at tick 4
abbrev pub memory_sheet : List ℕ
memory_sheet =
    3 ∷ 0 ∷ 4 ∷ 4 ∷ 0
    ∷ 1 ∷ 0 ∷ 9 ∷ 2 ∷ 2 ∷ 0 ∷ 1 ∷ 1 ∷ 0
    ∷ 4 ∷ 0 ∷ 0 ∷ 0 ∷ 0 ∷ 0 ∷ 0 ∷ 0 ∷ 0 ∷ 0 ∷ 0 ∷ 0 ∷ 1 ∷ 0 ∷ 4 ∷ 0 ∷ 0 ∷ 0 ∷ 0 ∷ 1 ∷ 4 ∷ 0 ∷ 0 ∷ 0 ∷ 1 ∷ 1
    ∷ 1 ∷ 0 ∷ 2 ∷ []

abbrev pub cell_examples : List Example
cell_examples =
    is (cells_of (sheet_of first_edition worked_sheet) 12 2 1) unknown
    ∷ is (cells_of (sheet_of first_edition worked_sheet) 12 7 1) high
    ∷ is (cells_of (sheet_of first_edition worked_sheet) 12 8 1) low
    ∷ is (cells_of (sheet_of first_edition worked_sheet) 12 11 1) high
    ∷ is (cells_of (sheet_of first_edition memory_sheet) 6 5 2) high
    ∷ []

-- Node 0 is an input that nothing drives, node 1 one whose first event comes at tick 3, node 2 one that begins at tick 0.
-- A memory with set {X} and delay 1 drives node 3 from node 2 as long as node 1 is X, and a NAND of delay 0 node 4 from nodes 0 and 2.
abbrev pub start_sheet : List ℕ
start_sheet =
    5 ∷ 0 ∷ 4 ∷ 4 ∷ 4 ∷ 3 ∷ 2
    ∷ 2 ∷ 0 ∷ 9 ∷ 4 ∷ 3 ∷ 2 ∷ 1 ∷ 1 ∷ 0 ∷ 6 ∷ 0 ∷ 4 ∷ 0 ∷ 2 ∷ 0 ∷ 0
    ∷ 4 ∷ 0 ∷ 0 ∷ 0 ∷ 0 ∷ 0 ∷ 2 ∷ 0 ∷ 2 ∷ 0 ∷ 0 ∷ 0 ∷ 2 ∷ 1 ∷ 3 ∷ 0 ∷ 0 ∷ 0 ∷ 1 ∷ 1 ∷ 4 ∷ 0 ∷ 0 ∷ 0 ∷ 2 ∷ 0
    ∷ 5 ∷ 0 ∷ 0 ∷ 1 ∷ 2 ∷ 3 ∷ 4 ∷ []

-- X throughout; X until the first event; the memory sees that X; the NAND's other input decides, or not
abbrev pub start_examples : List Example
start_examples =
    is (cells_of (sheet_of first_edition start_sheet) 6 0 0) unknown
    ∷ is (cells_of (sheet_of first_edition start_sheet) 6 5 0) unknown
    ∷ is (cells_of (sheet_of first_edition start_sheet) 6 2 1) unknown
    ∷ is (cells_of (sheet_of first_edition start_sheet) 6 3 1) high
    ∷ is (cells_of (sheet_of first_edition start_sheet) 6 1 3) low
    ∷ is (cells_of (sheet_of first_edition start_sheet) 6 5 3) high
    ∷ is (cells_of (sheet_of first_edition start_sheet) 6 1 4) high
    ∷ is (cells_of (sheet_of first_edition start_sheet) 6 3 4) unknown
    ∷ []

-- A sheet of the second edition. Nodes 0 and 1 are inputs that are 0 and 1 from tick 0 on, node 2 one that is 1 from tick 2 and 0 from
-- tick 4 on; node 0 is Z from tick 5 on. A multiplexer of delay 0 drives node 3 and an XOR of delay 2 node 4, each from nodes 0, 1 and 2.
abbrev pub three_sheet : List ℕ
three_sheet =
    5 ∷ 0 ∷ 4 ∷ 4 ∷ 4 ∷ 2 ∷ 0
    ∷ 2 ∷ 0 ∷ 15 ∷ 0 ∷ 3 ∷ 0 ∷ 1 ∷ 2 ∷ 0 ∷ 0 ∷ 12 ∷ 0 ∷ 4 ∷ 0 ∷ 1 ∷ 2 ∷ 2 ∷ 0
    ∷ 5 ∷ 0 ∷ 0 ∷ 0 ∷ 0 ∷ 0 ∷ 0 ∷ 0 ∷ 0 ∷ 0 ∷ 0 ∷ 0 ∷ 1 ∷ 1 ∷ 2 ∷ 0 ∷ 0 ∷ 0 ∷ 2 ∷ 1 ∷ 4 ∷ 0 ∷ 0 ∷ 0 ∷ 2 ∷ 0 ∷ 5 ∷ 0 ∷ 0 ∷ 0 ∷ 0 ∷ 3
    ∷ 2 ∷ 0 ∷ 3 ∷ 4 ∷ []

-- the multiplexer's third input is X, 1 and 0, and then the first, which it chooses, is Z; the XOR two ticks later
abbrev pub three_examples : List Example
three_examples =
    is (cells_of (sheet_of second_edition three_sheet) 8 1 3) unknown
    ∷ is (cells_of (sheet_of second_edition three_sheet) 8 3 3) high
    ∷ is (cells_of (sheet_of second_edition three_sheet) 8 4 3) low
    ∷ is (cells_of (sheet_of second_edition three_sheet) 8 5 3) unknown
    ∷ is (cells_of (sheet_of second_edition three_sheet) 8 1 4) low
    ∷ is (cells_of (sheet_of second_edition three_sheet) 8 3 4) unknown
    ∷ is (cells_of (sheet_of second_edition three_sheet) 8 5 4) low
    ∷ is (cells_of (sheet_of second_edition three_sheet) 8 6 4) high
    ∷ []

-- A bus. Nodes 0 and 1 are inputs, nodes 2 and 3 the clocks of two clocked inverters from them, of delay 1 and of delay 2, which both drive
-- node 4. The first clock is 1 from tick 2 and 0 from tick 6 on, the second 1 from tick 4 on; node 1 falls at tick 8.
abbrev pub bus_sheet : List ℕ
bus_sheet =
    5 ∷ 0 ∷ 4 ∷ 4 ∷ 4 ∷ 4 ∷ 3
    ∷ 2 ∷ 0 ∷ 8 ∷ 0 ∷ 4 ∷ 0 ∷ 2 ∷ 1 ∷ 0 ∷ 8 ∷ 0 ∷ 4 ∷ 1 ∷ 3 ∷ 2 ∷ 0
    ∷ 8 ∷ 0 ∷ 0 ∷ 0 ∷ 0 ∷ 0 ∷ 0 ∷ 0 ∷ 0 ∷ 0 ∷ 0 ∷ 0 ∷ 1 ∷ 1 ∷ 0 ∷ 0 ∷ 0 ∷ 0 ∷ 2 ∷ 0 ∷ 0 ∷ 0 ∷ 0 ∷ 0 ∷ 3 ∷ 0
    ∷ 2 ∷ 0 ∷ 0 ∷ 0 ∷ 2 ∷ 1 ∷ 4 ∷ 0 ∷ 0 ∷ 0 ∷ 3 ∷ 1 ∷ 6 ∷ 0 ∷ 0 ∷ 0 ∷ 2 ∷ 0 ∷ 8 ∷ 0 ∷ 0 ∷ 0 ∷ 1 ∷ 0
    ∷ 1 ∷ 0 ∷ 4 ∷ []

-- no driver gives a value; the first gives 1; both give one, 1 and 0; the second gives 0, and then 1
abbrev pub bus_examples : List Example
bus_examples =
    is (cells_of (sheet_of first_edition bus_sheet) 12 2 4) none
    ∷ is (cells_of (sheet_of first_edition bus_sheet) 12 5 4) high
    ∷ is (cells_of (sheet_of first_edition bus_sheet) 12 6 4) unknown
    ∷ is (cells_of (sheet_of first_edition bus_sheet) 12 7 4) low
    ∷ is (cells_of (sheet_of first_edition bus_sheet) 12 10 4) high
    ∷ []

-- A buffer and an inverter of delay 3, from the input node 0, both drive node 1: they always clash. Node 0 rises at tick 4.
abbrev pub clash_sheet : List ℕ
clash_sheet =
    2 ∷ 0 ∷ 4 ∷ 2
    ∷ 2 ∷ 0 ∷ 1 ∷ 0 ∷ 1 ∷ 0 ∷ 0 ∷ 3 ∷ 0 ∷ 2 ∷ 0 ∷ 1 ∷ 0 ∷ 0 ∷ 3 ∷ 0
    ∷ 2 ∷ 0 ∷ 0 ∷ 0 ∷ 0 ∷ 0 ∷ 0 ∷ 0 ∷ 4 ∷ 0 ∷ 0 ∷ 0 ∷ 0 ∷ 1
    ∷ 1 ∷ 0 ∷ 1 ∷ []

-- Two equal records are two modules: buffers of delay 3.
abbrev pub twice_sheet : List ℕ
twice_sheet =
    2 ∷ 0 ∷ 4 ∷ 0
    ∷ 2 ∷ 0 ∷ 1 ∷ 0 ∷ 1 ∷ 0 ∷ 0 ∷ 3 ∷ 0 ∷ 1 ∷ 0 ∷ 1 ∷ 0 ∷ 0 ∷ 3 ∷ 0
    ∷ 2 ∷ 0 ∷ 0 ∷ 0 ∷ 0 ∷ 0 ∷ 0 ∷ 0 ∷ 4 ∷ 0 ∷ 0 ∷ 0 ∷ 0 ∷ 1
    ∷ 1 ∷ 0 ∷ 1 ∷ []

-- how many changes are pending after a tick of a run to horizon 10
abbrev pub pending_after : List ℕ → ℕ → ℕ
pending_after s t = length (pending (sheet_of first_edition s) (cells_of (sheet_of first_edition s) 10) 10 t)

-- the bus stands at X while two changes are pending, one of each driver; equal drivers have one each as well
abbrev pub clash_examples : List Example
clash_examples =
    is (cells_of (sheet_of first_edition clash_sheet) 10 6 1) unknown
    ∷ is (cells_of (sheet_of first_edition clash_sheet) 10 7 1) unknown
    ∷ is (pending_after clash_sheet 3) 0
    ∷ is (pending_after clash_sheet 4) 2
    ∷ is (pending_after clash_sheet 7) 0
    ∷ is (cells_of (sheet_of first_edition twice_sheet) 10 7 1) high
    ∷ is (pending_after twice_sheet 4) 2
    ∷ []

-- the one table
abbrev pub examples : List Example
examples = gate_examples ++ cell_examples ++ start_examples ++ three_examples ++ join_examples ++ bus_examples ++ clash_examples
