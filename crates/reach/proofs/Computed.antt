-- The definitions compute: of two loops with a node between them, and nodes after them, only the loops' nodes are on a loop, and a loop may close by a third
-- input alone. Assumes nothing.
use mathlib.Core.List.{[], ◌∷◌, map}
use mathlib.Core.Bool.{true, false}
use mathlib.Core.Path.{◌≡◌, refl}
use Prim.Native.Nat.{ℕ}
use Rattle.sheet.specs.declared.Module.{Module}
use Rattle.sheet.specs.Enumerate.{any_below, each}
use Rattle.sheet.specs.Outcome.{refused}
use Rattle.sheet.specs.Sheet.{Sheet}
use Rattle.sheet.specs.Loop.{leads_over, is_on_loop}
use Rattle.sheet.specs.Refusal.{loop_rows, first}

-- a module of delay 0
at_once : ℕ → ℕ → ℕ → ℕ → ℕ → Module
at_once kind output first second third = record { kind = kind; parameter = 0; output = output; first = first; second = second; third = third; delay = 0 }

-- an inverter from node 1 onto itself, a buffer from node 1 onto node 0, an AND of nodes 0 and 2 onto node 2, a memory of node 2 onto node 3,
-- a multiplexer of nodes 3, 2 and 4 onto node 4, and an AND of nodes 0, 1 and 2 onto node 5
between : Sheet
between = record {
  nodes = 0 ∷ 0 ∷ 0 ∷ 0 ∷ 0 ∷ 0 ∷ [];
  modules = at_once 2 1 1 0 0 ∷ at_once 1 0 1 0 0 ∷ at_once 3 2 0 2 0 ∷ at_once 9 3 2 2 0 ∷ at_once 15 4 3 2 4 ∷ at_once 10 5 0 1 2 ∷ [];
  drive = [];
  watched = [];
}

on_loops : map (is_on_loop between) (0 ∷ 1 ∷ 2 ∷ 3 ∷ 4 ∷ 5 ∷ []) ≡ false ∷ true ∷ true ∷ false ∷ true ∷ false ∷ []
unfolding between at_once any_below leads_over
on_loops = refl

least : first (each 6 (loop_rows between)) ≡ refused 18 1 0
unfolding between at_once first each any_below leads_over
least = refl
