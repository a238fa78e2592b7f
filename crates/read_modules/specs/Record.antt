-- The rows of a module's record that is read whole, and of a node's byte after the modules, over what the code holds.
use Rattle.std.specs.Prelude.{Bool, ◌&&◌, ◌||◌, not, List, [], ◌∷◌, ℕ, eqb, ltb}
use Rattle.sheet.specs.declared.Module.{Module}
use Rattle.sheet.specs.Limits.{input_byte, longest_delay}
use Rattle.sheet.specs.Refusal.{Row, ◌at◌when◌, greatest_parameter, miswired}

-- over the greatest kind and the count of nodes
abbrev pub record_rows : ℕ → ℕ → ℕ → Module → List Row
record_rows greatest nodes place m =
    (5 at place when ltb greatest m.kind)
    ∷ (6 at place when ltb (greatest_parameter m.kind) m.parameter)
    ∷ (7 at place when miswired nodes m)
    ∷ (8 at place when ltb longest_delay m.delay)
    ∷ []

-- over a node's byte, and whether it is driven
abbrev pub byte_rows : ℕ → ℕ → Bool → List Row
byte_rows v byte driven = (10 at v when driven && eqb byte input_byte || not driven && ltb byte input_byte) ∷ []
