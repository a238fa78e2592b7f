-- The mission: an order of the modules that puts a module of delay zero after every module that drives one of its used inputs.
use mathlib.Core.List.{List, Memᴰ}
use Rattle.std.specs.Prelude.{◌≡◌, ℕ, ◌<◌, length, get_or}
use Rattle.sheet.specs.declared.Module.{Module}
use Rattle.sheet.specs.Sheet.{Sheet, no_module, module_count, module_of}
use Rattle.sheet.specs.Wiring.{used_inputs, DrivesInput}

-- every one of the numbers below the bound once
pub record Listed (n : ℕ) (order : List ℕ) : Type 0 where
  pub count : length order ≡ n
  pub known : (k : ℕ) → k < n → get_or order k 0 < n
  pub once : (j k : ℕ) → j < n → k < n → get_or order j 0 ≡ get_or order k 0 → j ≡ k

-- A valid order for a tick: every module once, and a module of delay zero after every module, delayed ones too,
-- that drives one of its used inputs.
pub record ValidOrder (S : Sheet) (order : List ℕ) : Type 0 where
  pub listed : Listed (module_count S) order
  pub after : (j k : ℕ) → j < module_count S → k < module_count S
      → (module_of S (get_or order k 0)).delay ≡ 0 → DrivesInput S (get_or order j 0) (get_or order k 0) → j < k

-- the record at a position
abbrev pub record_at : List Module → ℕ → Module
record_at records k = get_or records k no_module

-- The records are the sheet's, each once, in a valid order: one of delay zero stands after every one, delayed ones too,
-- that drives one of its used inputs.
pub record RecordsInOrder (S : Sheet) (order : List ℕ) (records : List Module) : Type 0 where
  pub valid : ValidOrder S order
  pub each : (k : ℕ) → k < module_count S → record_at records k ≡ module_of S (get_or order k 0)
  pub after : (j k : ℕ) → j < module_count S → k < module_count S
      → (record_at records k).delay ≡ 0 → Memᴰ (record_at records j).output (used_inputs (record_at records k)) → j < k
