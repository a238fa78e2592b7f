-- What is held of an accepted sheet, once it is loaded, is what the ticks begin with. Assumes nothing.
use mathlib.Core.List.{List}
use mathlib.Core.Path.{◌≡◌, sym, ap, ◌∙◌}
use Prim.Native.Nat.{ℕ, ◌<◌, ◌≤◌}
use native.Mathlib.Omega.{arith}
use lib.ListN.{length, get_or, replicate}
use lib.Seq.{take_all}
use Rattle.sheet.specs.Sheet.{Sheet, node_count, node_byte, module_count}
use Rattle.sheet.specs.WorkingOrder.{in_working_order}
use Rattle.sheet.proofs.Listed.{length-listed}
use Rattle.format.specs.Accepted.{Accepted}
use Rattle.model.specs.Fresh.{not_shown}
use Rattle.model.specs.Passes.{module_in}
use Rattle.model.specs.Ticks.{ordered_at, Begun}
use Rattle.model.proofs.Setting.{module_total, module_at, known}
use Rattle.pending.specs.Kept.{arrangement}
use Rattle.tick.specs.declared.row.Row.{Row}
use Rattle.tick.specs.Rows.{modules_in, starts_in}
use Rattle.tick.specs.Rest.{StartsIn, Levels}
use Rattle.tick.specs.Tally.{driven_at, given_in}
use Rattle.tick.proofs.Giving.{given_levels, first-given}
use Rattle.tick.proofs.Rows as in_rows
use Rattle.load.specs.First.{first_of}
use Rattle.load.proofs.Begun.{loaded}

module _ {S : Sheet} (acc : Accepted S) where
  pub few_modules : length (in_working_order S) ≤ 256
  few_modules = omega (arith, module_total S, acc.modules)

  -- the modules stand in rows
  module _ (rows : List Row) (put : modules_in rows ≡ in_working_order S) where
    pub rows_counted : length rows ≡ module_count S
    rows_counted = sym (in_rows.length_modules rows) ∙ ap length put ∙ module_total S

    driven_is : (k : ℕ) → driven_at rows k ≡ (module_in (in_working_order S) k).output
    driven_is k = ap (λ m. m.output) (sym (in_rows.module_at rows k) ∙ ap (λ ms. module_in ms k) put)

    -- what they drive are nodes
    pub driven_node : (k : ℕ) → k < length rows → driven_at rows k < 256
    driven_node k l =
        let b : k < module_count S = rw rows_counted at l in
        omega (arith, driven_is k, ap (λ m. m.output) (module_at S k b), (acc.sound_modules (ordered_at S k) (known S k b)).output, acc.nodes)

    -- the values are the nodes' first ones, and what each module gives, or came to last, is the value of its output
    module _ {values last : List ℕ} (vs : (v : ℕ) → v < node_count S → get_or values v 0 ≡ first_of (node_byte S v)) (vl : Levels values)
        (ls : (k : ℕ) → k < length (in_working_order S) → get_or last k 0 ≡ get_or values (module_in (in_working_order S) k).output 0) (ll : Levels last) where
      ls_there : (k : ℕ) → k < module_count S → get_or last k 0 ≡ get_or values (module_in (in_working_order S) k).output 0
      ls_there k b = ls k (rw (module_total S) b)

      given-first : (k : ℕ) → k < module_count S → get_or (given_in rows values last) k 0 ≡ get_or values (module_in (in_working_order S) k).output 0
      given-first k b =
          first-given rows values last k (rw rows_counted b) (ls_there k b ∙ ap (λ v. get_or values v 0) (sym (driven_is k)))
          ∙ ap (λ v. get_or values v 0) (driven_is k)

      pub begun : StartsIn rows → {shown : List ℕ} {pending : arrangement.Kept} → shown ≡ replicate 256 not_shown → pending ≡ arrangement.nothing
          → Begun arrangement S (record { values = values; given = given_in rows values last; last = last; shown = shown; starts = starts_in rows; pending = pending })
      begun kept none_shown none_pending =
          loaded S acc S.nodes (take_all (node_count S) S.nodes (omega arith)) (in_working_order S) (take_all (module_count S) (in_working_order S) (omega (arith, module_total S)))
          (given_in rows values last) vs vl given-first (length-listed (length rows) _ ∙ rows_counted) (given_levels rows vl ll) ls_there ll arrangement (starts_in rows)
          none_shown (rw (← put) (in_rows.starts_of rows kept)) none_pending
