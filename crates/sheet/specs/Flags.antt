-- A flag for each byte, by which the code remembers a test on nodes.
use Rattle.std.specs.Prelude.{Bool, false, List, ◌≡◌, ℕ, ◌<◌, get_or}

abbrev pub Flags : List Bool → (ℕ → Bool) → Type 0
Flags flags test = (v : ℕ) → v < 256 → get_or flags v false ≡ test v
