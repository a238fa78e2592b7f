-- The arrangement of the pending changes that the run uses.
-- Other crates name these and nothing of the arrangement's own.
use Rattle.std.specs.Prelude.{List, ℕ}
use Rattle.model.specs.Store.{Store}
use Rattle.pending.specs.Flat.{places}
use Rattle.pending.specs.FlatLaws.{flat}

abbrev pub arrangement : Store
arrangement = flat

-- how many changes there is room for
abbrev pub pending_room : ℕ
pending_room = places

-- what is pending, and the numbers past it, up to the end of the array: nothing is said of these, and they are here so that the value gives its
-- fields back, which `Copy` asks for
pub record Stored : Type 0 where
  pub kept : arrangement.Kept
  pub past : List ℕ
