-- The inputs of a sheet, in rising order: they are the nodes that no module drives, told by their bytes where the sheet is accepted, and the same for
-- sheets with the same inputs. Assumes nothing.
use lib.Dec.{eqb}
use lib.ListN.{length, get_or}
use mathlib.Core.Bool.{Bool, true, false}
use mathlib.Core.List.Memᴰ
use mathlib.Core.List.{List, [], ◌∷◌, Memᴰ}
use mathlib.Core.Logic.{◌↔◌}
use mathlib.Core.Path.{◌≡◌, refl}
use native.Mathlib.Omega.{arith}
use Prim.Native.Nat.{ℕ, ◌<◌, ◌≤◌}
use Rattle.std.specs.Prelude.{if◌then◌else◌}
use Rattle.sheet.specs.Enumerate.{chosen}
use Rattle.sheet.specs.Limits.{input_byte}
use Rattle.sheet.specs.Sheet.{Sheet, node_count, node_byte}
use Rattle.sheet.specs.Wiring.{is_input}
use Rattle.sheet.proofs.Chosen.{chosen_same, chosen_all, chosen-mem, chosen_few}
use Rattle.sheet.proofs.Listed.{get_or-mem}
use Rattle.sheet.proofs.Tests.{Tells, tells_as, tells_eq, tells_alike}
use Rattle.format.specs.Accepted.{Input, Accepted}
use Rattle.format.proofs.Condition.{tells_input}
use Rattle.network.proofs.Rising.{Pairs, Rising, Up, mem_place, pairs_at, pairs_each, rising_unique}
use Rattle.draw.specs.Drive.{sheet_inputs}

module _ (S : Sheet) where
  pub inputs_are : (v : ℕ) → Memᴰ v (sheet_inputs S) ↔ Input S v
  inputs_are v =
      (chosen_all (Input S) (node_count S) (is_input S) (λ u. u) (λ k h e. (tells_input S k).0 e) v, λ i. chosen-mem (node_count S) (is_input S) (λ u. u) v i.node ((tells_input S v).1 i))

  pub input_at : (i : ℕ) → i < length (sheet_inputs S) → Input S (get_or (sheet_inputs S) i 0)
  input_at i h = (inputs_are (get_or (sheet_inputs S) i 0)).0 (get_or-mem (sheet_inputs S) i 0 h)

  pub input_place : (v : ℕ) → Input S v → (i : ℕ) × (i < length (sheet_inputs S)) × (get_or (sheet_inputs S) i 0 ≡ v)
  input_place v i = let p = mem_place ((inputs_are v).1 i) in (p.0, p.1, p.2 0)

  pub few_inputs : length (sheet_inputs S) ≤ node_count S
  few_inputs = chosen_few (node_count S) (is_input S) (λ u. u)

  -- the entry that a node gives, if it is an input
  entry : ℕ → List ℕ
  entry v = if is_input S v then v ∷ [] else []

  entry-is : (v a : ℕ) → Memᴰ a (entry v) → a ≡ v
  unfolding entry
  entry-is v a = go (is_input S v)
    where
      go : (b : Bool) → Memᴰ a (if b then v ∷ [] else []) → a ≡ v
      go true m = Memᴰ.eq_of_singleton m
      go false m = absurd (Memᴰ.not-nil m)

  entry_alone : (v : ℕ) → Pairs (Up (λ u. u)) (entry v)
  unfolding entry
  entry_alone v = go (is_input S v)
    where
      go : (b : Bool) → Pairs (Up (λ u. u)) (if b then v ∷ [] else [])
      go true = (λ b m. absurd (Memᴰ.not-nil m), tt)
      go false = tt

  pub inputs_rise : Rising (λ u. u) (sheet_inputs S)
  unfolding entry
  inputs_rise =
      pairs_at (Up (λ u. u)) (sheet_inputs S)
      (pairs_each (Up (λ u. u)) (node_count S) entry entry_alone (λ i j l a b m k. omega (arith, l, entry-is i a m, entry-is j b k)))

  -- where the sheet is accepted, an input is a node whose byte is 4
  module _ (acc : Accepted S) where
    tells_byte : (v : ℕ) → v < node_count S → Tells (eqb (node_byte S v) input_byte) (Input S v)
    tells_byte v h =
        tells_as (tells_eq (node_byte S v) input_byte) (λ e. record { node = h; undriven = λ d. omega (arith, acc.initial_values v h d, e) }, acc.inputs v)

    pub inputs_by_bytes : sheet_inputs S ≡ chosen (node_count S) (λ v. eqb (node_byte S v) input_byte) (λ v. v)
    inputs_by_bytes =
        chosen_same (node_count S) _ _ _ _ (λ v h. tells_alike (is_input S v) (eqb (node_byte S v) input_byte) (tells_input S v) (tells_byte v h)) (λ v h e. refl)

-- sheets with the same inputs
pub same_inputs : (S S' : Sheet) → ((v : ℕ) → Input S v ↔ Input S' v) → sheet_inputs S ≡ sheet_inputs S'
same_inputs S S' same =
    rising_unique (λ u. u) (sheet_inputs S) (sheet_inputs S') (inputs_rise S) (inputs_rise S')
    (λ v. (λ m. (inputs_are S' v).1 ((same v).0 ((inputs_are S v).0 m)), λ m. (inputs_are S v).1 ((same v).1 ((inputs_are S' v).0 m))))
