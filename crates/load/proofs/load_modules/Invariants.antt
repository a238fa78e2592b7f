-- `load::load_modules` meets its contract. The loop's invariant: the modules passed stand in their rows, with their kinds' starts and flagged, and while none is shared all flags stand. Assumes nothing.
use Rattle.std.proofs.Common.{◌≡◌, true, false, ℕ, ◌<◌, length}
use Rattle.level.specs.Table.{start_of}
use Rattle.model.specs.Passes.{module_in}
use Rattle.tick.specs.Rows.{row_in}
use Rattle.tick.specs.Tally.{alone_at, DrivesAlone}
use Rattle.load.proofs.load_modules.Given as goal

abbrev pub invariant-loop-k : goal.invariant-loop-k
invariant-loop-k l =
    record {
      same_size : length l.rows ≡ length l.modules;
      put : (j : ℕ) → j < l.k → (row_in l.rows j).module ≡ module_in l.modules j;
      started : (j : ℕ) → j < l.k → (row_in l.rows j).start ≡ start_of (row_in l.rows j).module.kind;
      flagged : (j : ℕ) → j < l.k → alone_at l.rows j ≡ true → DrivesAlone l.modules j;
      none_shared : l.shared ≡ false → (j : ℕ) → j < l.k → alone_at l.rows j ≡ true;
    }
