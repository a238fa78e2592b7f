-- Which node leads to which over modules of delay 0: a used input of such a module leads to its output, leading goes on over every node, and on a sheet
-- without a zero-delay loop no node leads to itself. Assumes nothing.
use mathlib.Core.Bool.{true, false}
use mathlib.Core.List.{Memᴰ}
use mathlib.Core.Path.{◌≡◌, refl}
use Prim.Native.Nat.{ℕ, ◌<◌}
use Rattle.sheet.specs.Loop.{leads_over}
use Rattle.sheet.specs.Sheet.{node_count, module_count, module_of, Sheet, output_of}
use Rattle.sheet.specs.Wiring.{used_inputs}
use Rattle.format.specs.Accepted.{Accepted}
use Rattle.sheet.proofs.Tests.{fails}
use Rattle.format.proofs.Chains.{tells_leads, kept, through, loop_test}

-- one node leads to another over any nodes
abbrev pub Leads : Sheet → ℕ → ℕ → Type 0
Leads S u v = leads_over S (node_count S) u v ≡ true

module _ (S : Sheet) where
  pub leads_on : (u w v : ℕ) → w < node_count S → Leads S u w → Leads S w v → Leads S u v
  leads_on u w v l = through S (node_count S) w l u v

  pub used_leads : (m u : ℕ) → m < module_count S → (module_of S m).delay ≡ 0 → Memᴰ u (used_inputs (module_of S m)) → Leads S u (output_of S m)
  used_leads m u l d i =
      kept S (node_count S) u (output_of S m) ((tells_leads S u (output_of S m)).1 (m, l, record { at_once = d; output = refl; used = i }))

  pub not_itself : Accepted S → (v : ℕ) → v < node_count S → leads_over S (node_count S) v v ≡ false
  not_itself acc v l = (fails (leads_over S (node_count S) v v) (loop_test S v l)).1 (acc.no_loop v)
