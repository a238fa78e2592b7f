-- The rows of the nodes' bytes, as the code tries them: by the bytes that were read and the nodes flagged as driven. Assumes nothing.
use mathlib.Core.Bool.{Bool, false}
use mathlib.Core.List.{List}
use mathlib.Core.Path.{◌≡◌, sym, ap, ap₂, ◌∙◌}
use Prim.Native.Nat.{ℕ, ◌≤◌}
use native.Mathlib.Omega.{arith}
use lib.ListN.{length, get_or, take}
use Rattle.sheet.specs.declared.Edition.{Edition}
use Rattle.sheet.specs.declared.contents.Section.{Section}
use Rattle.sheet.specs.Enumerate.{each, listed}
use Rattle.sheet.specs.Flags.{Flags}
use Rattle.sheet.specs.Layout.{nodes_counted, node_at, sheet_of}
use Rattle.sheet.specs.Refusal.{first, start_rows}
use Rattle.sheet.specs.Sections.{SectionRead}
use Rattle.sheet.specs.Wiring.{is_driven}
use Rattle.sheet.proofs.Each.{each_same}
use Rattle.sheet.proofs.Held.{take-filled}
use Rattle.sheet.proofs.Listed.{length-listed, get_or-listed}
use Rattle.read_modules.specs.Record.{byte_rows}

module _ (e : Edition) (s : List ℕ) {nodes : Section ℕ 256} (read : SectionRead 0 (nodes_counted s) (node_at s) nodes) where
  nodes_listed : take nodes.count nodes.records ≡ listed (nodes_counted s) (node_at s)
  nodes_listed =
      ap (take nodes.count) read.held
      ∙ take-filled 256 0 (listed (nodes_counted s) (node_at s)) nodes.count (read.counted ∙ sym (length-listed (nodes_counted s) (node_at s)))

  pub start_rows_lem : {bytes : List ℕ} → bytes ≡ take nodes.count nodes.records → nodes.count ≤ 256 → (driven : List Bool) → Flags driven (is_driven (sheet_of e s))
      → first (each (length bytes) (λ v. byte_rows v (get_or bytes v 0) (get_or driven v false))) ≡ first (each (nodes_counted s) (start_rows e s))
  start_rows_lem is few driven flags =
      rw (is, nodes_listed, length-listed (nodes_counted s) (node_at s))
      (ap first
      (each_same (nodes_counted s) _ (start_rows e s)
      (λ v h. ap₂ (byte_rows v) (get_or-listed (nodes_counted s) (node_at s) v 0 h) (flags v (omega (arith, h, few, read.counted))))))
