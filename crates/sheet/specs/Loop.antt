-- Document 01, "Modules": a zero-delay loop is a closed chain of one or more modules of delay 0, each output being a used input of the
-- next, memories included. The outputs in it are the nodes on the loop.
use Rattle.std.specs.Prelude.{Bool, ◌&&◌, ◌||◌, ◌≡◌, ℕ, zero, suc, ◌<◌, eqb}
use mathlib.Core.List.{Memᴰ}
use Rattle.sheet.specs.declared.Module.{Module}
use Rattle.sheet.specs.Enumerate.{any_of, any_below}
use Rattle.sheet.specs.Sheet.{Sheet, node_count, module_count, module_of, output_of}
use Rattle.sheet.specs.Wiring.{used_inputs}

-- module a's output, a node, is a used input of module b, and both have delay 0
pub record Feeds (S : Sheet) (a b : ℕ) : Type 0 where
  pub from : a < module_count S
  pub to : b < module_count S
  pub from_at_once : (module_of S a).delay ≡ 0
  pub to_at_once : (module_of S b).delay ≡ 0
  pub node : output_of S a < node_count S
  pub used : Memᴰ (output_of S a) (used_inputs (module_of S b))

pub data Chain (S : Sheet) : ℕ → ℕ → Type 0 where
  link : {a b : ℕ} → Feeds S a b → Chain S a b
  more : {a b c : ℕ} → Feeds S a b → Chain S b c → Chain S a c

-- a node on a zero-delay loop
pub record OnLoop (S : Sheet) (v : ℕ) : Type 0 where
  pub driver : ℕ
  pub closed : Chain S driver driver
  pub output : output_of S driver ≡ v

-- the least node on any zero-delay loop
pub record LeastOnLoop (S : Sheet) (v : ℕ) : Type 0 where
  pub node : v < node_count S
  pub on_loop : OnLoop S v
  pub least : (u : ℕ) → u < v → OnLoop S u → ⊥

-- no node is on a zero-delay loop
abbrev pub LoopFree : Sheet → Type 0
LoopFree S = (v : ℕ) → v < node_count S → OnLoop S v → ⊥

-- The same as a test. A module has delay 0, the first node for a used input and the second for its output:
abbrev pub links : Module → ℕ → ℕ → Bool
links m u v = eqb m.delay 0 && eqb m.output v && any_of (eqb u) (used_inputs m)

-- some module of the sheet links the nodes
abbrev pub leads : Sheet → ℕ → ℕ → Bool
leads S u v = any_below (module_count S) (λ m. links (module_of S m) u v)

-- the first node leads to the second over nodes below k
unfoldable pub leads_over : Sheet → ℕ → ℕ → ℕ → Bool
leads_over S zero u v = leads S u v
leads_over S (suc k) u v = leads_over S k u v || leads_over S k u k && leads_over S k k v

-- a node leads to itself
abbrev pub is_on_loop : Sheet → ℕ → Bool
is_on_loop S v = leads_over S (node_count S) v v
