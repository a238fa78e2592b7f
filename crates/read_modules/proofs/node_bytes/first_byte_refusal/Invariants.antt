-- `read_modules::node_bytes::first_byte_refusal` meets its contract. The loop's invariant: no row of the nodes passed is met. Assumes nothing.
use mathlib.Core.Bool.{Bool, false}
use mathlib.Core.List.{List}
use mathlib.Core.Path.{◌≡◌}
use Prim.Native.Nat.{ℕ}
use lib.ListN.{get_or}
use Rattle.sheet.specs.Enumerate.{each}
use Rattle.sheet.specs.Outcome.{finished}
use Rattle.sheet.specs.Refusal.{Row, first}
use Rattle.read_modules.specs.Record.{byte_rows}
use Rattle.read_modules.proofs.node_bytes.first_byte_refusal.Given as goal

abbrev pub rows : List ℕ → List Bool → ℕ → List Row
rows nodes driven v = byte_rows v (get_or nodes v 0) (get_or driven v false)

abbrev pub invariant-loop-v : goal.invariant-loop-v
invariant-loop-v l = first (each l.v (rows l.nodes l.driven)) ≡ finished 0
