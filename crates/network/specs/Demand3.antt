-- The mission, demand 3: one statement over the sheet's bytes, the horizon, the buffer length, the permutation, the listed order, and the
-- orders of all ticks of both.
use Rattle.std.specs.Prelude.{List, ◌≡◌, ℕ, ◌<◌}
use Rattle.sheet.specs.declared.Edition.{Edition}
use Rattle.sheet.specs.Outcome.{finished}
use Rattle.sheet.specs.Sheet.{Sheet, node_count}
use Rattle.sheet.specs.Layout.{sheet_of}
use Rattle.network.specs.Timeline.{Cells}
use Rattle.network.specs.Satisfied.{Satisfied}
use Rattle.network.specs.Working.{worked}
use Rattle.network.specs.Order.{ValidOrder}
use Rattle.network.specs.Ends.{ended_listing}
use Rattle.network.specs.Run.{ran}
use Rattle.network.specs.Renumbering.{renumbered_listing}

-- a sheet runs to its horizon with a buffer of so many bytes: its run answers a finished run
pub record RunsToHorizon (e : Edition) (s : List ℕ) (horizon bytes : ℕ) : Type 0 where
  pub count : ℕ
  pub answer : (ran e s horizon bytes).answer ≡ finished count

-- each tick's order puts a module of delay zero after every module that drives one of its used inputs
abbrev pub ValidOrders : Sheet → ℕ → (ℕ → List ℕ) → Type 0
ValidOrders S horizon orders = (t : ℕ) → t < horizon → ValidOrder S (orders t)

-- every set of timelines that satisfies the sheet has exactly these cells
abbrev pub Only : Sheet → ℕ → Cells → Type 0
Only S horizon c = (other : Cells) → Satisfied S horizon other → (t v : ℕ) → t < horizon → v < node_count S → other t v ≡ c t v

-- N is the sheet of the bytes s, P that of the bytes p, renumbered by to; N's cells are n and P's are q.
pub record SameRenumbered (e : Edition) (s p : List ℕ) (to : ℕ → ℕ) (horizon bytes : ℕ) (n q : Cells) : Type 0 where
  -- every node has the same cells in both
  pub same_cells : (t v : ℕ) → t < horizon → v < node_count (sheet_of e s) → n t v ≡ q t (to v)
  -- the library's listing of each is exactly the one these cells give
  pub listing_of_N : (ran e s horizon bytes).records ≡ ended_listing (sheet_of e s) n horizon
  pub listing_of_P : (ran e p horizon bytes).records ≡ ended_listing (sheet_of e p) q horizon
  -- P's answer is N's
  pub same_answer : (ran e p horizon bytes).answer ≡ (ran e s horizon bytes).answer
  -- P's listing is N's renumbered and sorted again
  pub listing_renumbered : (ran e p horizon bytes).records ≡ renumbered_listing to (ran e s horizon bytes).records
  -- these cells satisfy the drive, the initial values and every module up to the horizon
  pub satisfied_by_N : Satisfied (sheet_of e s) horizon n
  pub satisfied_by_P : Satisfied (sheet_of e p) horizon q
  -- and every set of timelines that satisfies them has exactly these cells
  pub only_N : Only (sheet_of e s) horizon n
  pub only_P : Only (sheet_of e p) horizon q

-- the sheet in bytes worked to its horizon in the orders of its ticks
abbrev pub worked_from : Edition → List ℕ → ℕ → (ℕ → List ℕ) → Cells
worked_from e s horizon orders = worked (sheet_of e s) orders horizon
