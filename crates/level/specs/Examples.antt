-- Document 01, "Examples": those marked * to be proved, as a table of a value and what the paper says it is. This part has the gates',
-- the clocked inverter's as document 02's W-202 has it, at each clock, and those of W-205's gates of three inputs; and where kinds' tables
-- begin, which W-206 keeps; and W-209's joining.
use mathlib.Core.List.{List, [], ◌∷◌, Memᴰ}
use Rattle.std.specs.Prelude.{◌≡◌, ℕ}
use Rattle.level.specs.Level.{low, high, unknown, none}
use Rattle.level.specs.Gate.{nand, and, or, xor, inverter, clocked_inverter, nor, multiplexer}
use Rattle.level.specs.Join.{join, joined, joined_counts}
use Rattle.level.specs.Table.{start_of}

-- a value that a definition gives, and the paper's
pub record Example : Type 0 where
  pub given : ℕ
  pub stated : ℕ

abbrev pub is : ℕ → ℕ → Example
is given stated = record { given = given; stated = stated }

-- what a table of examples says: each value is the paper's
abbrev pub Hold : List Example → Type 0
Hold examples = (e : Example) → Memᴰ e examples → e.given ≡ e.stated

abbrev pub gate_examples : List Example
gate_examples =
    is (nand (low ∷ none ∷ [])) high
    ∷ is (and (high ∷ none ∷ [])) unknown
    ∷ is (or (high ∷ none ∷ [])) high
    ∷ is (xor (unknown ∷ unknown ∷ [])) unknown
    ∷ is (inverter (none ∷ [])) unknown
    ∷ is (clocked_inverter (low ∷ unknown ∷ [])) unknown
    ∷ is (clocked_inverter (high ∷ unknown ∷ [])) unknown
    ∷ is (clocked_inverter (low ∷ none ∷ [])) unknown
    ∷ is (clocked_inverter (high ∷ none ∷ [])) unknown
    ∷ is (clocked_inverter (low ∷ low ∷ [])) none
    ∷ is (clocked_inverter (high ∷ low ∷ [])) none
    ∷ is (clocked_inverter (low ∷ high ∷ [])) high
    ∷ is (clocked_inverter (high ∷ high ∷ [])) low
    ∷ is (and (high ∷ high ∷ none ∷ [])) unknown
    ∷ is (or (low ∷ unknown ∷ high ∷ [])) high
    ∷ is (xor (high ∷ high ∷ high ∷ [])) high
    ∷ is (xor (high ∷ low ∷ high ∷ [])) low
    ∷ is (xor (high ∷ high ∷ none ∷ [])) unknown
    ∷ is (nand (none ∷ unknown ∷ low ∷ [])) high
    ∷ is (nor (low ∷ low ∷ low ∷ [])) high
    ∷ is (multiplexer (low ∷ high ∷ high ∷ [])) high
    ∷ is (multiplexer (low ∷ high ∷ low ∷ [])) low
    ∷ is (multiplexer (low ∷ none ∷ high ∷ [])) unknown
    ∷ is (multiplexer (none ∷ high ∷ low ∷ [])) unknown
    ∷ is (multiplexer (high ∷ high ∷ unknown ∷ [])) high
    ∷ is (multiplexer (low ∷ low ∷ none ∷ [])) low
    ∷ is (multiplexer (low ∷ high ∷ unknown ∷ [])) unknown
    ∷ is (multiplexer (none ∷ none ∷ unknown ∷ [])) unknown
    ∷ []

-- the first and the last kind of one input, of two and of three; a constant, a memory and a number that is no kind have no table
abbrev pub start_examples : List Example
start_examples =
    is (start_of 1) 0
    ∷ is (start_of 2) 4
    ∷ is (start_of 3) 8
    ∷ is (start_of 8) 88
    ∷ is (start_of 10) 104
    ∷ is (start_of 15) 424
    ∷ is (start_of 0) 488
    ∷ is (start_of 9) 488
    ∷ is (start_of 16) 488
    ∷ []

-- Z yields, equal values stay, anything else is X; of lists, none is Z, and a clash is X whatever follows
abbrev pub join_examples : List Example
join_examples =
    is (join none low) low
    ∷ is (join high none) high
    ∷ is (join unknown none) unknown
    ∷ is (join none none) none
    ∷ is (join low low) low
    ∷ is (join high high) high
    ∷ is (join unknown unknown) unknown
    ∷ is (join low high) unknown
    ∷ is (join high low) unknown
    ∷ is (join low unknown) unknown
    ∷ is (join unknown high) unknown
    ∷ is (joined []) none
    ∷ is (joined (none ∷ high ∷ none ∷ high ∷ [])) high
    ∷ is (joined (low ∷ none ∷ high ∷ low ∷ [])) unknown
    ∷ is (joined_counts 0 2 0) high
    ∷ is (joined_counts 2 1 0) unknown
    ∷ is (joined_counts 0 0 0) none
    ∷ []
