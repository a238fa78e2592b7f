-- What the run keeps before a tick, in terms of the cells: present values are the cells of the tick before, what modules give is their
-- contributions there, and the pending changes are those that these owe.
use Rattle.std.specs.Prelude.{T, length, get_or, ◌≡◌, ℕ, zero, suc, ◌+◌, ◌<◌, ◌≤◌}
use mathlib.Core.List.{List, [], Memᴰ}
use Rattle.sheet.specs.Limits.{most_nodes, most_modules}
use Rattle.sheet.specs.declared.Module.{Module}
use Rattle.sheet.specs.Sheet.{Sheet, node_count, node_byte, module_count, module_of, event_count, event_of, watched_count, watched_node}
use Rattle.sheet.specs.Wiring.{module_rule}
use Rattle.sheet.specs.WorkingOrder.{in_working_order}
use Rattle.network.specs.Timeline.{Cells, Timeline, comes_to_at, input_cells, contribution, contributions}
use Rattle.network.specs.Listing.{changes}
use Rattle.model.specs.Change.{Change}
use Rattle.model.specs.Store.{Store}
use Rattle.model.specs.Fresh.{not_shown}
use Rattle.model.specs.Starts.{StartsOf}
use Rattle.model.specs.State.{State, delayed_count, first_value}
use Rattle.model.specs.Ticks.{ordered_at}

-- what stands before tick t: the cell of the tick before, and at first another value
abbrev pub before : Timeline → ℕ → Timeline
before x start zero = start
before x start (suc u) = x u

-- the module at position k of the working order
abbrev pub placed : Sheet → ℕ → Module
placed S k = module_of S (ordered_at S k)

-- what the module at position k comes to at a tick, before its delay
abbrev pub ahead_of : Sheet → Cells → ℕ → Timeline
ahead_of S c k = comes_to_at (module_rule (placed S k)) (input_cells c (placed S k)) (node_byte S (placed S k).output)

-- what the module at position k contributes
abbrev pub given_by : Sheet → Cells → ℕ → Timeline
given_by S c k = contribution S c (ordered_at S k)

-- a change of the contribution of the delayed module at position k at tick u, owed before tick t: due at t or later, decided before t, and below the horizon
pub record Owed (S : Sheet) (c : Cells) (horizon t k u : ℕ) : Type 0 where
  pub delayed : k < delayed_count S
  pub due : t ≤ u
  pub decided : u < t + (placed S k).delay
  pub below : u < horizon
  pub later : 0 < u
  pub differs : T (changes (contributions S c) (ordered_at S k) u)

-- the change of the module at position k at tick u
abbrev pub change_at : Sheet → Cells → ℕ → ℕ → Change
change_at S c k u = record { due = u; position = k; value = given_by S c k u }

-- exactly the owed changes, each once
pub record Owing (S : Sheet) (c : Cells) (horizon t : ℕ) (held : List Change) : Type 0 where
  pub owed : (x : Change) → Memᴰ x held → (k : ℕ) × (u : ℕ) × Owed S c horizon t k u × (x ≡ change_at S c k u)
  pub pending : (k u : ℕ) → Owed S c horizon t k u → Memᴰ (change_at S c k u) held
  pub once : (i j : ℕ) → i < j → j < length held → (d : Change) → get_or held i d ≡ get_or held j d → ⊥

pub record Standing (store : Store) (S : Sheet) (c : Cells) (horizon t : ℕ) (st : State store) : Type 0 where
  pub values_size : length st.values ≡ most_nodes
  pub levels : (v : ℕ) → get_or st.values v 0 < 4
  pub values : (v : ℕ) → v < node_count S → get_or st.values v 0 ≡ before (λ u. c u v) (first_value S v) t
  pub given_size : length st.given ≡ module_count S
  pub given_levels : (k : ℕ) → get_or st.given k 0 < 4
  pub given : (k : ℕ) → k < module_count S → get_or st.given k 0 ≡ before (given_by S c k) (node_byte S (placed S k).output) t
  pub last_size : length st.last ≡ most_modules
  pub last_levels : (k : ℕ) → get_or st.last k 0 < 4
  pub last : (k : ℕ) → k < delayed_count S → get_or st.last k 0 ≡ before (ahead_of S c k) (node_byte S (placed S k).output) t
  pub shown_size : length st.shown ≡ most_nodes
  pub shown : (k : ℕ) → k < watched_count S → get_or st.shown (watched_node S k) 0 ≡ before (λ u. c u (watched_node S k)) not_shown t
  -- what is kept for each module is the start that its kind gives
  pub starts : StartsOf (in_working_order S) st.starts
  -- the store holds exactly the owed changes, each once
  pub held : List Change
  pub holds : store.Holds st.pending held
  pub owing : Owing S c horizon t held

-- no event of the drive has the tick, and no change is due at it
pub record Quiet (store : Store) (S : Sheet) (t : ℕ) (st : State store) : Type 0 where
  pub no_event : (e : ℕ) → e < event_count S → (event_of S e).tick ≡ t → ⊥
  pub none_due : store.due st.pending t ≡ []
