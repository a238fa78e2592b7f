-- What a module comes to, by its kind: a constant to its parameter, a gate to its entry in the tables, a memory to its first input or to what it held. Assumes nothing.
use mathlib.Core.List.{List, [], ◌∷◌, map}
use mathlib.Core.Path.{◌≡◌, ◌∙◌, refl, sym, ap}
use Prim.Native.Nat.{ℕ, zero, suc, ◌+◌, ◌<◌}
use native.Mathlib.Omega.{arith}
use lib.ListN.{get_or, take}
use Rattle.level.specs.Rule.{inputs_of, comes_to}
use Rattle.level.specs.Kind.{rule_of}
use Rattle.level.specs.Table.{start_of, place_of, tables}
use Rattle.level.proofs.Gates.{values_take, same_inputs, length_used, gate_same, level_bound, Values, Tabled, entry_at}
use Rattle.sheet.specs.declared.Module.{Module}
use Rattle.sheet.specs.Wiring.{module_rule}
use Rattle.model.specs.Passes.{comes_to_now}
use Rattle.tick.specs.declared.row.Row.{Row}
use Rattle.tick.specs.Rows.{row_in, modules_in, comes_to_over}
use Rattle.tick.specs.Rest.{Known, Levels}
use Rattle.tick.proofs.Rows.{module_at}

-- what is done with each of the first n may be done before they are taken
map-take : {A B : Type 0} (f : A → B) (n : ℕ) (l : List A) → map f (take n l) ≡ take n (map f l)
map-take f zero l = refl
map-take f (suc n) [] = refl
map-take f (suc n) (a ∷ l) = ap (λ r. f a ∷ r) (map-take f n l)

-- a place within a kind's table, counted from where that begins, is within the tables
pub in_tables : (kind : ℕ) {n size : ℕ} → Tabled kind n size → (from i : ℕ) → from ≡ start_of kind → i < size → from + i < 488
in_tables kind gate from i b h = omega (arith, gate.within)

-- what a module of three inputs, of which its kind uses some, comes to
module _ (kind parameter first second third held : ℕ) where
  abbrev inputs : List ℕ
  inputs = first ∷ second ∷ third ∷ []

  abbrev Comes : ℕ → Type 0
  Comes r = r ≡ comes_to (rule_of kind parameter) (take (inputs_of (rule_of kind parameter)) inputs) held

  constant : {r : ℕ} → kind ≡ 0 → ((inputs : List ℕ) (held : ℕ) → r ≡ comes_to (rule_of 0 parameter) inputs held) → Comes r
  constant e c = rw e (c (take (inputs_of (rule_of 0 parameter)) inputs) held)

  module _ (v : Values inputs) where
    with_bound : {r : ℕ} → Known kind parameter → held < 4 → Comes r → Comes r × (r < 4)
    with_bound known h e =
        (e, rw e (level_bound kind parameter _ held (λ z. let p = (rw z at known).allowed in omega arith) (length_used kind parameter inputs (omega arith)) (values_take (inputs_of (rule_of kind parameter)) inputs v) h))

    -- a gate of n inputs: the entry at its inputs' place
    gate_of : {n size : ℕ} → Tabled kind n size → {r : ℕ} (from i : ℕ) → r ≡ get_or tables (from + i) 0 → from ≡ start_of kind → i ≡ place_of (take n inputs) → Comes r
    gate_of {n} gate from i e b p =
        e
        ∙ rw (b, same_inputs kind parameter, gate.inputs, gate_same kind parameter (take n inputs) held gate.has_table)
        (entry_at gate (take n inputs) i (rw gate.inputs at (length_used kind 0 inputs (omega arith))) (values_take n inputs v) p)

-- the same of a module, by the nodes that are its inputs
module _ (m : Module) (values : List ℕ) (held : ℕ) (levels : Levels values) where
  abbrev input : ℕ → ℕ
  input node = get_or values node 0

  abbrev ComesTo : ℕ → Type 0
  ComesTo r = r ≡ comes_to_over m values held

  abbrev Gives : ℕ → Type 0
  Gives = Comes m.kind m.parameter (input m.first) (input m.second) (input m.third) held

  over : {r : ℕ} → Gives r → ComesTo r
  over e = e ∙ sym (ap (λ l. comes_to (module_rule m) l held) (map-take input (inputs_of (module_rule m)) (m.first ∷ m.second ∷ m.third ∷ [])))

  pub bounded : {r : ℕ} → Known m.kind m.parameter → held < 4 → Gives r → ComesTo r × (r < 4)
  bounded known h e =
      let b = with_bound m.kind m.parameter (input m.first) (input m.second) (input m.third) held (levels.each _, (levels.each _, (levels.each _, tt))) known h e in
      (over b.0, b.1)

  pub constant_of : {r : ℕ} → m.kind ≡ 0 → ((inputs : List ℕ) (held : ℕ) → r ≡ comes_to (rule_of 0 m.parameter) inputs held) → Gives r
  constant_of = constant m.kind m.parameter (input m.first) (input m.second) (input m.third) held

  pub gate_at : {n size : ℕ} → Tabled m.kind n size → {r : ℕ} (from i : ℕ) → r ≡ get_or tables (from + i) 0 → from ≡ start_of m.kind
      → i ≡ place_of (take n (input m.first ∷ input m.second ∷ input m.third ∷ [])) → Gives r
  gate_at gate from i = gate_of m.kind m.parameter (input m.first) (input m.second) (input m.third) held (levels.each _, (levels.each _, (levels.each _, tt))) gate from i

-- the module at position k
pub comes_now : (rows : List Row) (values last : List ℕ) (k : ℕ) → comes_to_now (modules_in rows) values last k ≡ comes_to_over (row_in rows k).module values (get_or last k 0)
comes_now rows values last k = ap (λ m. comes_to_over m values (get_or last k 0)) (module_at rows k)
