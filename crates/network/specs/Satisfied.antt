-- Document 01, "Working and renumbering", with document 02's W-209: a set of timelines gives every node one cell for each tick below the
-- horizon. It satisfies the sheet if each input's cells are those of the drive and each driven node's cells those of its equation,
-- which joins its drivers' contributions, initial values included.
use Rattle.std.specs.Prelude.{T, ◌≡◌, ℕ, ◌<◌}
use Rattle.sheet.specs.Sheet.{Sheet}
use Rattle.sheet.specs.Wiring.{is_driven, is_input}
use Rattle.network.specs.Timeline.{Cells, drive_cell, driven_cell}

pub record Satisfied (S : Sheet) (horizon : ℕ) (c : Cells) : Type 0 where
  pub inputs : (t v : ℕ) → t < horizon → T (is_input S v) → c t v ≡ drive_cell S.drive v t
  pub driven : (t v : ℕ) → t < horizon → T (is_driven S v) → c t v ≡ driven_cell S c v t
