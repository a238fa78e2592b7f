-- The working order of an accepted sheet is a valid one, so that every accepted sheet has one: it has the modules by rank, and a module of delay 0 has a
-- greater rank than every module that drives one of its used inputs. Assumes nothing.
use lib.ListN.{get_or}
use Prim.Native.Nat.{ℕ, suc, ◌<◌, suc-le-suc}
use Rattle.sheet.specs.Enumerate.{listed}
use Rattle.sheet.specs.Sheet.{node_count, module_count, Sheet}
use Rattle.sheet.specs.WorkingOrder.{rank, working_order}
use Rattle.format.specs.Accepted.{Accepted}
use Rattle.network.specs.Order.{Listed, ValidOrder}
use Rattle.network.proofs.Grouped.{grouped-listed, grouped_rises}
use Rattle.network.proofs.Rank.{rank_at_most, rank_rises}

module _ (S : Sheet) where
  pub every_module_once : Listed (module_count S) (working_order S)
  unfolding working_order
  every_module_once = grouped-listed (rank S) (suc (suc (node_count S))) (module_count S) (λ m l. suc-le-suc (rank_at_most S m))

  -- a module of smaller rank stands before one of greater
  pub by_rank : (j k : ℕ) → j < module_count S → k < module_count S → rank S (get_or (working_order S) j 0) < rank S (get_or (working_order S) k 0) → j < k
  unfolding working_order
  by_rank = grouped_rises (rank S) (suc (suc (node_count S))) (module_count S) (λ m l. suc-le-suc (rank_at_most S m))

  pub working_order_lem : Accepted S → ValidOrder S (working_order S)
  working_order_lem acc =
      record {
        listed = every_module_once;
        after = λ j k l h d i. by_rank j k l h (rank_rises S acc _ _ (every_module_once.known j l) (every_module_once.known k h) d i);
      }
