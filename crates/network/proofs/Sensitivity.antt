-- Orders matter where they are not valid: the definitions tell a wrong order by its cells. Assumes nothing.
use mathlib.Core.List.{List, [], ◌∷◌}
use mathlib.Core.Path.{◌≡◌, refl}
use Prim.Native.Nat.{ℕ}
use Rattle.sheet.specs.Enumerate.{any_below, each}
use Rattle.sheet.specs.Layout.{sheet_of, first_edition}
use Rattle.network.specs.Timeline.{given, drive_cell, latest}
use Rattle.network.specs.Working.{unworked, standing, work, work_all, contributed, worked}

-- Node 0 is an input that rises at tick 1. Module 0, a buffer of delay 0, drives node 1; module 1, a memory of delay 0 with the set of all values, drives node 2 from it.
abbrev pub gate_and_memory : List ℕ
gate_and_memory =
    3 ∷ 0 ∷ 4 ∷ 0 ∷ 0
    ∷ 2 ∷ 0 ∷ 1 ∷ 0 ∷ 1 ∷ 0 ∷ 0 ∷ 0 ∷ 0 ∷ 9 ∷ 15 ∷ 2 ∷ 1 ∷ 0 ∷ 0 ∷ 0
    ∷ 2 ∷ 0 ∷ 0 ∷ 0 ∷ 0 ∷ 0 ∷ 0 ∷ 0 ∷ 1 ∷ 0 ∷ 0 ∷ 0 ∷ 0 ∷ 1
    ∷ 1 ∷ 0 ∷ 2 ∷ []

-- the memory after the gate that feeds it catches 1; before it, X
pub memory_after_gate : worked (sheet_of first_edition gate_and_memory) (λ t. 0 ∷ 1 ∷ []) 2 1 2 ≡ 1
unfolding sheet_of any_below each given drive_cell latest unworked standing work work_all contributed worked
memory_after_gate = refl

pub memory_before_gate : worked (sheet_of first_edition gate_and_memory) (λ t. 1 ∷ 0 ∷ []) 2 1 2 ≡ 2
unfolding sheet_of any_below each given drive_cell latest unworked standing work work_all contributed worked
memory_before_gate = refl

-- a module dropped from an order leaves its output's cell at X
pub module_dropped : worked (sheet_of first_edition gate_and_memory) (λ t. 1 ∷ []) 2 1 1 ≡ 2
unfolding sheet_of any_below each given drive_cell latest unworked standing work work_all contributed worked
module_dropped = refl

-- Module 0, a buffer of delay 1, drives node 1; module 1, an inverter of delay 0, drives node 2 from it.
abbrev pub delayed_driver : List ℕ
delayed_driver =
    3 ∷ 0 ∷ 4 ∷ 0 ∷ 0
    ∷ 2 ∷ 0 ∷ 1 ∷ 0 ∷ 1 ∷ 0 ∷ 0 ∷ 1 ∷ 0 ∷ 2 ∷ 0 ∷ 2 ∷ 1 ∷ 0 ∷ 0 ∷ 0
    ∷ 1 ∷ 0 ∷ 0 ∷ 0 ∷ 0 ∷ 0 ∷ 0 ∷ 1
    ∷ 1 ∷ 0 ∷ 2 ∷ []

-- a zero-delay module before a delayed driver of its input reads X: its cell of this tick is not settled yet
pub after_delayed_driver : worked (sheet_of first_edition delayed_driver) (λ t. 0 ∷ 1 ∷ []) 2 1 2 ≡ 0
unfolding sheet_of any_below each given drive_cell latest unworked standing work work_all contributed worked
after_delayed_driver = refl

pub before_delayed_driver : worked (sheet_of first_edition delayed_driver) (λ t. 1 ∷ 0 ∷ []) 2 1 2 ≡ 2
unfolding sheet_of any_below each given drive_cell latest unworked standing work work_all contributed worked
before_delayed_driver = refl

-- Modules 0 and 1, buffers of delay 0 from the input node 0, both drive node 1; module 2, an inverter of delay 0, drives node 2 from it.
abbrev pub two_drivers : List ℕ
two_drivers =
    3 ∷ 0 ∷ 4 ∷ 0 ∷ 0
    ∷ 3 ∷ 0 ∷ 1 ∷ 0 ∷ 1 ∷ 0 ∷ 0 ∷ 0 ∷ 0 ∷ 1 ∷ 0 ∷ 1 ∷ 0 ∷ 0 ∷ 0 ∷ 0 ∷ 2 ∷ 0 ∷ 2 ∷ 1 ∷ 0 ∷ 0 ∷ 0
    ∷ 1 ∷ 0 ∷ 0 ∷ 0 ∷ 0 ∷ 0 ∷ 0 ∷ 1
    ∷ 1 ∷ 0 ∷ 2 ∷ []

-- a module after all drivers of its input reads what they come to together; between them, X
pub after_both_drivers : worked (sheet_of first_edition two_drivers) (λ t. 1 ∷ 0 ∷ 2 ∷ []) 1 0 2 ≡ 0
unfolding sheet_of any_below each given drive_cell latest unworked standing work work_all contributed worked
after_both_drivers = refl

pub between_drivers : worked (sheet_of first_edition two_drivers) (λ t. 0 ∷ 2 ∷ 1 ∷ []) 1 0 2 ≡ 2
unfolding sheet_of any_below each given drive_cell latest unworked standing work work_all contributed worked
between_drivers = refl

-- one of two drivers dropped from an order leaves their node's cell at X
pub driver_dropped : worked (sheet_of first_edition two_drivers) (λ t. 0 ∷ 2 ∷ []) 1 0 1 ≡ 2
unfolding sheet_of any_below each given drive_cell latest unworked standing work work_all contributed worked
driver_dropped = refl
