-- One tick's work on the values, what modules give, the values come to last and the pending changes, as the model has it.
use Rattle.std.specs.Prelude.{List, [], ◌≡◌, ℕ, suc, ◌<◌, ◌≤◌, length}
use Rattle.sheet.specs.Limits.{pending_limit}
use Rattle.model.specs.Drive.{event_in, next_event}
use Rattle.model.specs.Passes.{module_in, Settled, Scheduled}
use Rattle.model.specs.Starts.{StartsOf}
use Rattle.model.specs.State.{State, Loaded, tick}
use Rattle.pending.specs.Kept.{arrangement, pending_room}
use Rattle.tick.specs.declared.row.Row.{Row}
use Rattle.tick.specs.declared.fixed.Network.{Network}
use Rattle.tick.specs.declared.carried.Present.{Present}
use Rattle.tick.specs.declared.carried.Ahead.{Ahead}
use Rattle.tick.specs.declared.carried.Carried.{Carried}
use Rattle.tick.specs.Rows.{modules_in, starts_in}
use Rattle.tick.specs.Rest.{Placed}
use Rattle.tick.specs.Tally.{given_in, Tallied}

-- what is carried, as the model keeps it
abbrev pub settled_in : List Row → List ℕ → List ℕ → Settled
settled_in rows values kept = record { values = values; given = given_in rows values kept }

abbrev pub settled : List Row → Present → Settled
settled rows p = settled_in rows p.values p.kept

abbrev pub scheduled : Ahead → Scheduled arrangement
scheduled a = record { last = a.last; pending = a.pending.kept }

-- what is kept of what the modules give may be relied on
abbrev pub TalliedIn : Network → Present → Type 0
TalliedIn network p = Tallied network.rows.now network.shared p.kept p.counts

-- what stands in a network; the watched nodes do not matter to the modules
abbrev pub loaded_in : Network → Loaded
loaded_in network =
    record { drive = network.drive.now; modules = modules_in network.rows.now; delayed = network.delayed; watched = [] }

-- what a tick's work rests on, beside what each network and all that is carried has
pub record Workable (network : Network) (t : ℕ) (before : Carried) : Type 0 where
  -- the starts are those of the modules' kinds, as the state before the tick has them
  pub starts_kept : StartsOf (modules_in network.rows.now) (starts_in network.rows.now)
  -- no event drives a node that a module drives
  pub apart : (e k : ℕ) → e < length network.drive.now → k < length network.rows.now
      → (event_in network.drive.now e).node ≡ (module_in (modules_in network.rows.now) k).output → ⊥
  pub next : before.next ≡ next_event network.drive.now t
  pub few_pending : arrangement.count before.ahead.pending.kept ≤ pending_limit
  pub placed : Placed (length network.rows.now) (arrangement.due before.ahead.pending.kept t)
  pub below : t < network.horizon
  pub tallied : TalliedIn network before.present

-- what is shown does not matter to it, nor do the starts
abbrev pub worked_tick : Loaded → ℕ → ℕ → Settled → List ℕ → arrangement.Kept → State arrangement
worked_tick l horizon t st last pending =
    (tick arrangement l horizon t
    (record { values = st.values; given = st.given; last = last; shown = []; starts = []; pending = pending })).state

-- what is carried after a tick's work, by what was carried before it
abbrev pub worked_from : Network → ℕ → Carried → State arrangement
worked_from network t before =
    worked_tick (loaded_in network) network.horizon t (settled network.rows.now before.present) before.ahead.last before.ahead.pending.kept

pub record Worked (network : Network) (t : ℕ) (before after : Carried) : Type 0 where
  pub values_worked : after.present.values ≡ (worked_from network t before).values
  pub given_worked : given_in network.rows.now after.present.values after.present.kept ≡ (worked_from network t before).given
  pub last_worked : after.ahead.last ≡ (worked_from network t before).last
  pub pending_worked : after.ahead.pending.kept ≡ (worked_from network t before).pending
  pub next : after.next ≡ next_event network.drive.now (suc t)
  pub few : arrangement.count after.ahead.pending.kept ≤ pending_room
  pub tallied : TalliedIn network after.present
