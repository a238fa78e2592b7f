-- What the cells need of an accepted sheet: outputs and used inputs are nodes. Assumes nothing.
use mathlib.Core.List.{Memᴰ}
use Prim.Native.Nat.{ℕ, ◌<◌}
use Rattle.sheet.specs.Sheet.{module_count, module_of, Sheet, node_count, output_of}
use Rattle.sheet.specs.Wiring.{used_inputs}
use Rattle.format.specs.Accepted.{Accepted}

pub record Wired (S : Sheet) : Type 0 where
  pub output_node : (m : ℕ) → m < module_count S → output_of S m < node_count S
  pub used_node : (m : ℕ) → m < module_count S → (v : ℕ) → Memᴰ v (used_inputs (module_of S m)) → v < node_count S

pub wired : (S : Sheet) → Accepted S → Wired S
wired S acc = record { output_node = λ m h. (acc.sound_modules m h).output; used_node = λ m h. (acc.sound_modules m h).used }
