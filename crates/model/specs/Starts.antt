-- The starts of the modules' kinds, which tell where their tables begin: worked out once, before tick 0, and kept (W-206).
use Rattle.std.specs.Prelude.{List, ◌≡◌, ℕ, ◌<◌, length, get_or}
use Rattle.level.specs.Table.{start_of}
use Rattle.sheet.specs.declared.Module.{Module}
use Rattle.model.specs.Passes.{module_in}

-- at each module's position stands the start that its kind gives
abbrev pub StartsOf : List Module → List ℕ → Type 0
StartsOf modules starts = (k : ℕ) → k < length modules → get_or starts k 0 ≡ start_of (module_in modules k).kind
