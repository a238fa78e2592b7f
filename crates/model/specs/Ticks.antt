-- The run of the model: ticks in turn, from what is kept before tick 0.
use Rattle.std.specs.Prelude.{List, [], ◌++◌, ◌≡◌, ℕ, zero, suc, ◌<◌, length, get_or}
use Rattle.sheet.specs.Limits.{most_nodes, most_modules}
use Rattle.sheet.specs.Sheet.{Sheet, node_count, node_byte, module_count, output_of}
use Rattle.sheet.specs.WorkingOrder.{working_order, in_working_order}
use Rattle.network.specs.Listing.{Record}
use Rattle.model.specs.Store.{Store}
use Rattle.model.specs.Fresh.{not_shown}
use Rattle.model.specs.Starts.{StartsOf}
use Rattle.model.specs.State.{State, Ticked, loaded_of, first_value, tick}

-- the module at position k of the working order, as the sheet numbers it
abbrev pub ordered_at : Sheet → ℕ → ℕ
ordered_at S k = get_or (working_order S) k 0

-- before tick 0 nodes have their first values, modules give and have come to their outputs' initial values, nothing is shown or pending,
-- and the starts of the modules' kinds are worked out
pub record Begun (store : Store) (S : Sheet) (st : State store) : Type 0 where
  pub values_size : length st.values ≡ most_nodes
  pub values : (v : ℕ) → v < node_count S → get_or st.values v 0 ≡ first_value S v
  pub levels : (v : ℕ) → get_or st.values v 0 < 4
  pub given_size : length st.given ≡ module_count S
  pub given : (k : ℕ) → k < module_count S → get_or st.given k 0 ≡ node_byte S (output_of S (ordered_at S k))
  pub given_levels : (k : ℕ) → get_or st.given k 0 < 4
  pub last_size : length st.last ≡ most_modules
  pub last : (k : ℕ) → k < module_count S → get_or st.last k 0 ≡ node_byte S (output_of S (ordered_at S k))
  pub last_levels : (k : ℕ) → get_or st.last k 0 < 4
  pub shown_size : length st.shown ≡ most_nodes
  pub shown : (v : ℕ) → v < most_nodes → get_or st.shown v 0 ≡ not_shown
  pub starts : StartsOf (in_working_order S) st.starts
  pub pending : st.pending ≡ store.nothing

abbrev pub tick_of : (store : Store) → Sheet → ℕ → ℕ → State store → Ticked store
tick_of store S horizon t st = tick store (loaded_of S) horizon t st

-- what is kept before tick t, and the records of the ticks below it
unfoldable pub state_at : (store : Store) → Sheet → ℕ → State store → ℕ → State store
state_at store S horizon st zero = st
state_at store S horizon st (suc t) = (tick_of store S horizon t (state_at store S horizon st t)).state

unfoldable pub records_below : (store : Store) → Sheet → ℕ → State store → ℕ → List Record
records_below store S horizon st zero = []
records_below store S horizon st (suc t) =
    records_below store S horizon st t ++ (tick_of store S horizon t (state_at store S horizon st t)).records
