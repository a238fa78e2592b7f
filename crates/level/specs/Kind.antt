-- Document 01, "Modules", with document 02's W-205: the rule of each kind, in the order of its table.
use Rattle.std.specs.Prelude.{List, [], ◌∷◌, ℕ, get_or}
use Rattle.level.specs.Level.{unknown}
use Rattle.level.specs.Gate.{buffer, inverter, and, or, xor, nand, nor, clocked_inverter, multiplexer, member}
use Rattle.level.specs.Rule.{Rule, gate, hold}

-- by kind, at a parameter: 0 constant, 1 buffer, 2 inverter, 3 AND, 4 OR, 5 XOR, 6 NAND, 7 NOR, 8 clocked inverter, 9 memory;
-- of three inputs 10 AND, 11 OR, 12 XOR, 13 NAND, 14 NOR, 15 multiplexer
abbrev pub rules : ℕ → List Rule
rules parameter =
    gate 0 (λ inputs. parameter)
    ∷ gate 1 buffer
    ∷ gate 1 inverter
    ∷ gate 2 and
    ∷ gate 2 or
    ∷ gate 2 xor
    ∷ gate 2 nand
    ∷ gate 2 nor
    ∷ gate 2 clocked_inverter
    ∷ hold (member parameter)
    ∷ gate 3 and
    ∷ gate 3 or
    ∷ gate 3 xor
    ∷ gate 3 nand
    ∷ gate 3 nor
    ∷ gate 3 multiplexer
    ∷ []

-- the last of document 01's kinds, and the last that has a rule
abbrev pub last_of_two : ℕ
last_of_two = 9

abbrev pub last_kind : ℕ
last_kind = 15

-- a kind that no table has gives X
abbrev pub rule_of : ℕ → ℕ → Rule
rule_of kind parameter = get_or (rules parameter) kind (gate 0 (λ inputs. unknown))
