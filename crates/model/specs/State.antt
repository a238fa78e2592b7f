-- What the run keeps between ticks, and what one tick makes of it.
use Rattle.std.specs.Prelude.{List, ℕ, zero, suc, ◌+◌, ◌-◌, eqb, length, if◌then◌else◌}
use Rattle.level.specs.Level.{unknown}
use Rattle.sheet.specs.declared.Module.{Module}
use Rattle.sheet.specs.declared.Event.{Event}
use Rattle.sheet.specs.Limits.{input_byte}
use Rattle.sheet.specs.Sheet.{Sheet, node_byte, module_count, module_of}
use Rattle.sheet.specs.WorkingOrder.{in_working_order}
use Rattle.network.specs.Listing.{Record}
use Rattle.model.specs.Store.{Store}
use Rattle.model.specs.Drive.{drive_tick}
use Rattle.model.specs.Passes.{give_all, settle, schedule}
use Rattle.model.specs.Fresh.{fresh, show_all}

-- What the ticks work on: the drive, the modules in working order, how many of them are delayed (they stand first), and the watched nodes.
pub record Loaded : Type 0 where
  pub drive : List Event
  pub modules : List Module
  pub delayed : ℕ
  pub watched : List ℕ

-- how many of the first n modules of a sheet are delayed
unfoldable pub delayed_below : Sheet → ℕ → ℕ
delayed_below S zero = zero
delayed_below S (suc n) = delayed_below S n + (if eqb (module_of S n).delay 0 then 0 else 1)

abbrev pub delayed_count : Sheet → ℕ
delayed_count S = delayed_below S (module_count S)

abbrev pub loaded_of : Sheet → Loaded
loaded_of S = record { drive = S.drive; modules = in_working_order S; delayed = delayed_count S; watched = S.watched }

-- the value of a node before tick 0: its initial value, and X for an input
abbrev pub first_value : Sheet → ℕ → ℕ
first_value S v = if eqb (node_byte S v) input_byte then unknown else node_byte S v

-- the nodes' values, what each module gives its node at present, the value that each delayed module came to last, the values shown last,
-- the starts of the modules' kinds, and the pending changes
pub record State (store : Store) : Type 0 where
  pub values : List ℕ
  pub given : List ℕ
  pub last : List ℕ
  pub shown : List ℕ
  pub starts : List ℕ
  pub pending : store.Kept

-- one tick: what is kept after it, and its records
pub record Ticked (store : Store) : Type 0 where
  pub state : State store
  pub records : List Record

abbrev pub tick : (store : Store) → Loaded → ℕ → ℕ → State store → Ticked store
tick store l horizon t st =
    let settled = settle l.modules l.delayed (length l.modules - l.delayed)
    (give_all l.modules (store.due st.pending t) (record { values = drive_tick l.drive t st.values; given = st.given })) in
    let scheduled = schedule store l.modules t horizon settled.values l.delayed
    (record { last = st.last; pending = store.rest st.pending t }) in
    record {
      state =
          record {
            values = settled.values;
            given = settled.given;
            last = scheduled.last;
            shown = show_all settled.values st.shown l.watched;
            starts = st.starts;
            pending = scheduled.pending;
          };
      records = fresh t settled.values st.shown l.watched;
    }
