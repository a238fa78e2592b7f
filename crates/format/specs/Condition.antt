-- Document 01, "Where each refusal is met", with document 02's W-203 and W-209: the table of refusals 2 to 18 as propositions.
use Rattle.std.specs.Prelude.{Bool, true, false, ◌⊎◌, ◌≡◌, ℕ, suc, ◌+◌, ◌<◌, ◌≤◌, length}
use mathlib.Core.List.{List, ◌∷◌, ◌++◌, Memᴰ}
use Rattle.sheet.specs.declared.Edition.{Edition}
use Rattle.sheet.specs.declared.Module.{Module}
use Rattle.sheet.specs.Limits.{least_nodes, most_nodes, most_modules, most_events, most_watched, input_byte, last_value, longest_delay, last_tick}
use Rattle.sheet.specs.Bytes.{word_at}
use Rattle.sheet.specs.Layout.{count_size, event_size, sheet_end, sheet_of}
use Rattle.sheet.specs.Layout.{nodes_counted, node_place, node_at, modules_place, modules_counted, module_place, module_at}
use Rattle.sheet.specs.Layout.{drive_place, events_counted, event_place, event_at, watched_place, watched_counted, watch_place, watched_at}
use Rattle.sheet.specs.Wiring.{used_inputs, unused_inputs}
use Rattle.sheet.specs.Loop.{OnLoop}
use Rattle.sheet.specs.Refusal.{Row, ◌at◌when◌, greatest_parameter, key, rows}
use Rattle.format.specs.Accepted.{Driven, Input, DrivenAtStart}

-- a count: its first byte and its range
pub data Count (e : Edition) (s : List ℕ) : ℕ → ℕ → ℕ → Type 0 where
  of_nodes : Count e s 0 least_nodes most_nodes
  of_modules : Count e s (modules_place s) 0 most_modules
  of_drive : Count e s (drive_place e s) 0 most_events
  of_watched : Count e s (watched_place e s) 0 most_watched

-- a count or record: its first byte and its size
pub data Part (e : Edition) (s : List ℕ) : ℕ → ℕ → Type 0 where
  a_count : {p least greatest : ℕ} → Count e s p least greatest → Part e s p count_size
  a_node : (v : ℕ) → v < nodes_counted s → Part e s (node_place v) 1
  a_module : (m : ℕ) → m < modules_counted s → Part e s (module_place e s m) e.size
  an_event : (k : ℕ) → k < events_counted e s → Part e s (event_place e s k) event_size
  a_watched : (k : ℕ) → k < watched_counted e s → Part e s (watch_place e s k) 1

-- output or used input is no node, or unused input not 0
pub data Miswired (nodes : ℕ) (m : Module) : Type 0 where
  output_no_node : nodes ≤ m.output → Miswired nodes m
  input_no_node : (v : ℕ) → Memᴰ v (used_inputs m) → nodes ≤ v → Miswired nodes m
  unused_not_0 : (v : ℕ) → Memᴰ v (unused_inputs m) → 0 < v → Miswired nodes m

-- not above the one before
pub data NotAbove (f : ℕ → ℕ) : ℕ → Type 0 where
  not_above : (before : ℕ) → f (suc before) ≤ f before → NotAbove f (suc before)

-- in a check that is strict, or not
module _ (strict : Bool) (e : Edition) (s : List ℕ) where
  -- the condition of the refusal with this number is met at this place
  pub data ConditionBy : ℕ → ℕ → Type 0 where
    -- each count or record: the bytes end inside it
    ends_inside : {p size : ℕ} → Part e s p size → length s < p + size → ConditionBy 2 p
    -- each count: outside its range
    outside_range : {p least greatest : ℕ} → Count e s p least greatest → word_at s p < least ⊎ greatest < word_at s p → ConditionBy 3 p
    -- a node: byte above 4
    byte_above : (v : ℕ) → v < nodes_counted s → input_byte < node_at s v → ConditionBy 4 (node_place v)
    -- a module: kind above the edition's greatest; parameter not allowed; wrong wiring; delay above 10,000
    kind_above : (m : ℕ) → m < modules_counted s → e.greatest < (module_at e s m).kind → ConditionBy 5 (module_place e s m)
    parameter_not_allowed : (m : ℕ) → m < modules_counted s → greatest_parameter (module_at e s m).kind < (module_at e s m).parameter
        → ConditionBy 6 (module_place e s m)
    wrong_wiring : (m : ℕ) → m < modules_counted s → Miswired (nodes_counted s) (module_at e s m) → ConditionBy 7 (module_place e s m)
    delay_above : (m : ℕ) → m < modules_counted s → longest_delay < (module_at e s m).delay → ConditionBy 8 (module_place e s m)
    -- after the modules: driven node with byte 4, or undriven node with 0 to 3
    driven_or_not : (v : ℕ) → v < nodes_counted s
        → (Driven (sheet_of e s) v × (node_at s v ≡ input_byte)) ⊎ ((Driven (sheet_of e s) v → ⊥) × node_at s v < input_byte) → ConditionBy 10 v
    -- a drive event: tick above 999,999; not an input of the sheet; value above 3; not above the event before
    tick_above : (k : ℕ) → k < events_counted e s → last_tick < (event_at e s k).tick → ConditionBy 11 (event_place e s k)
    not_an_input : (k : ℕ) → k < events_counted e s → (Input (sheet_of e s) (event_at e s k).node → ⊥) → ConditionBy 12 (event_place e s k)
    value_above : (k : ℕ) → k < events_counted e s → last_value < (event_at e s k).value → ConditionBy 13 (event_place e s k)
    not_above_before : (k : ℕ) → k < events_counted e s → NotAbove (λ k. key (event_at e s k)) k → ConditionBy 14 (event_place e s k)
    -- after the drive, in a strict check alone: input without an event at tick 0
    no_first_event : strict ≡ true → (v : ℕ) → Input (sheet_of e s) v → (DrivenAtStart (sheet_of e s) v → ⊥) → ConditionBy 15 v
    -- a watched node: no such node, or not above the one before
    wrong_watched : (k : ℕ) → k < watched_counted e s → nodes_counted s ≤ watched_at e s k ⊎ NotAbove (watched_at e s) k
        → ConditionBy 16 (watch_place e s k)
    -- after the watched: bytes left over; then a zero-delay loop
    left_over : sheet_end e s < length s → ConditionBy 17 (sheet_end e s)
    on_loop : (v : ℕ) → OnLoop (sheet_of e s) v → ConditionBy 18 v

  -- A row of the table, front to back: the condition of its number is met at its place, and none is of a row before it.
  pub record FirstConditionBy (number place : ℕ) : Type 0 where
    pub before : List Row
    pub test : Bool
    pub after : List Row
    pub there : rows strict e s ≡ before ++ (number at place when test) ∷ after
    pub met : ConditionBy number place
    pub none_before : (r : Row) → Memᴰ r before → ConditionBy r.number r.place → ⊥

-- in one that is not, and so in a run
abbrev pub Condition : Edition → List ℕ → ℕ → ℕ → Type 0
Condition = ConditionBy false

abbrev pub FirstCondition : Edition → List ℕ → ℕ → ℕ → Type 0
FirstCondition = FirstConditionBy false
