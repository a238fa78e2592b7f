-- The inputs that are found by their bytes and put into an array are the sheet's. Assumes nothing.
use lib.Dec.{eqb}
use lib.ListN.{length, take, drop}
use lib.Seq.{take_at}
use mathlib.Core.List.{List, ◌++◌}
use mathlib.Core.Path.{◌≡◌, refl, sym, ap, ◌∙◌}
use native.Mathlib.Omega.{arith}
use Prim.Native.Nat.{ℕ, ◌≤◌}
use Rattle.sheet.specs.declared.Edition.{Edition}
use Rattle.sheet.specs.Enumerate.{chosen}
use Rattle.sheet.specs.Layout.{nodes_counted, node_at, sheet_of}
use Rattle.sheet.specs.Limits.{input_byte}
use Rattle.sheet.specs.Sheet.{node_byte}
use Rattle.sheet.proofs.Chosen.{chosen_same, chosen_few}
use Rattle.sheet.proofs.Parts.{counts_nodes, node_byte_lem}
use Rattle.format.specs.Accepted.{AcceptedIn}
use Rattle.lent.specs.Lent.{Printed}
use Rattle.lent.proofs.Putting.{whole}
use Rattle.loaded.specs.Loaded.{inputs_in}
use Rattle.loaded.proofs.Inputs.{inputs_by_bytes}

module _ (e : Edition) (s : List ℕ) (ok : AcceptedIn e s) where
  abbrev found : List ℕ
  found = chosen (nodes_counted s) (λ v. eqb (node_at s v) input_byte) (λ v. v)

  by_bytes : found ≡ inputs_in e s
  by_bytes =
      chosen_same (nodes_counted s) _ (λ v. eqb (node_byte (sheet_of e s) v) input_byte) _ (λ v. v) (λ v h. ap (λ b. eqb b input_byte) (sym (node_byte_lem e s v h))) (λ v h t. refl)
      ∙ ap (λ k. chosen k (λ v. eqb (node_byte (sheet_of e s) v) input_byte) (λ v. v)) (sym (counts_nodes e s))
      ∙ sym (inputs_by_bytes (sheet_of e s) ok.sheet)

  few : length found ≤ 256
  few = omega (arith, chosen_few (nodes_counted s) (λ v. eqb (node_at s v) input_byte) (λ v. v), ok.sheet.nodes, counts_nodes e s)

  -- in an array of 256 numbers, of which the first so many are the inputs
  module _ {array after : List ℕ} {count : ℕ} (room : length array ≡ 256) (put : Printed array found after count) where
    put_whole : (count ≡ length found) × (after ≡ found ++ drop (length found) array)
    put_whole = whole put (omega (arith, few, room))

    pub count_below : count ≤ 256
    count_below = omega (arith, put_whole.0, few)

    pub inputs_found : take count after ≡ inputs_in e s
    inputs_found = ap (take count) put_whole.1 ∙ take_at found _ count (sym put_whole.0) ∙ by_bytes
