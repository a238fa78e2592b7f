-- The passes of a tick over the changes that are due, over the modules of delay zero and over the delayed ones.
-- Modules go by their position in the working order.
use Rattle.std.specs.Prelude.{List, [], ◌∷◌, map, ℕ, zero, suc, ◌+◌, eqb, ltb, length, get_or, set, if◌then◌else◌}
use Rattle.level.specs.Join.{joined}
use Rattle.level.specs.Rule.{comes_to}
use Rattle.sheet.specs.declared.Module.{Module}
use Rattle.sheet.specs.Enumerate.{chosen}
use Rattle.sheet.specs.Sheet.{no_module}
use Rattle.sheet.specs.Wiring.{module_rule, used_inputs}
use Rattle.model.specs.Change.{Change}
use Rattle.model.specs.Store.{Store}

-- the module at a position
abbrev pub module_in : List Module → ℕ → Module
module_in modules k = get_or modules k no_module

-- what the drivers of a node give it at present
abbrev pub present_on : List Module → List ℕ → ℕ → List ℕ
present_on modules given v = chosen (length modules) (λ k. eqb (module_in modules k).output v) (λ k. get_or given k 0)

-- the nodes' values, and what each module gives its node at present
pub record Settled : Type 0 where
  pub values : List ℕ
  pub given : List ℕ

-- What the module at position k contributes reaches its output node here, and nowhere else: joined with what the node's other drivers
-- give at present.
abbrev pub give : List Module → ℕ → ℕ → Settled → Settled
give modules k value st =
    let output = (module_in modules k).output in
    let given = set st.given k value in
    record { values = set st.values output (joined (present_on modules given output)); given = given }

-- changes given, one after the other
unfoldable pub give_all : List Module → List Change → Settled → Settled
give_all modules [] st = st
give_all modules (x ∷ xs) st = give_all modules xs (give modules x.position x.value st)

-- the values of a module's used inputs
abbrev pub input_values : Module → List ℕ → List ℕ
input_values m values = map (λ v. get_or values v 0) (used_inputs m)

-- what the module at position k comes to over the present values, holding a value
abbrev pub comes_to_now : List Module → List ℕ → List ℕ → ℕ → ℕ
comes_to_now modules values held k = comes_to (module_rule (module_in modules k)) (input_values (module_in modules k) values) (get_or held k 0)

-- without a delay a module gives at once what it comes to, and holds what it gave last
abbrev pub settle_one : List Module → Settled → ℕ → Settled
settle_one modules st k = give modules k (comes_to_now modules st.values st.given k) st

-- j modules of delay zero from position d on, one after the other
unfoldable pub settle : List Module → ℕ → ℕ → Settled → Settled
settle modules d zero st = st
settle modules d (suc j) st = settle_one modules (settle modules d j st) (d + j)

-- the value that each delayed module came to last, and the pending changes
pub record Scheduled (store : Store) : Type 0 where
  pub last : List ℕ
  pub pending : store.Kept

-- a value that differs from the last one is scheduled, if it falls below the horizon
abbrev pub schedule_one : (store : Store) → List Module → ℕ → ℕ → List ℕ → Scheduled store → ℕ → Scheduled store
schedule_one store modules t horizon values st k =
    let value = comes_to_now modules values st.last k in
    let due = t + (module_in modules k).delay in
    if eqb value (get_or st.last k 0) then st
    else record {
      last = set st.last k value;
      pending = if ltb due horizon then store.put st.pending (record { due = due; position = k; value = value }) else st.pending;
    }

-- the first k delayed modules
unfoldable pub schedule : (store : Store) → List Module → ℕ → ℕ → List ℕ → ℕ → Scheduled store → Scheduled store
schedule store modules t horizon values zero st = st
schedule store modules t horizon values (suc k) st =
    schedule_one store modules t horizon values (schedule store modules t horizon values k st) k
