-- A check gives refusal 18 exactly where no refusal of the bytes is met and some node is on a zero-delay loop, and names the least such node.
-- The bytes' rows have other numbers. Assumes nothing.
use lib.Dec.{lit<}
use mathlib.Core.Bool.{Bool, true}
use mathlib.Core.List.{List, [], ◌++◌}
use mathlib.Core.Logic.{◌↔◌, ⊎_elim}
use mathlib.Core.Path.{◌≡◌, sym, ◌∙◌}
use native.Mathlib.Omega.{arith}
use Prim.Native.Nat.{ℕ, ◌<◌}
use Rattle.sheet.specs.declared.Edition.{Edition}
use Rattle.sheet.specs.Enumerate.{each}
use Rattle.sheet.specs.Limits.{least_nodes, most_nodes, most_modules, most_events, most_watched}
use Rattle.sheet.specs.Layout.{nodes_counted, modules_place, modules_counted, drive_place, events_counted, watched_place, watched_counted, sheet_of}
use Rattle.sheet.specs.Outcome.{finished, refused}
use Rattle.sheet.specs.Loop.{LeastOnLoop}
use Rattle.sheet.specs.Refusal.{Row, ◌at◌when◌, count_rows, node_rows, module_rows, start_rows, event_rows, first_event_rows, watched_rows, loops_section, bytes_rows, rows, first, checked_by}
use Rattle.sheet.proofs.Rows.{All, all_nil, ◌and◌, ◌then◌, all_each, all_where, first_answers, passed_append, refused_append}
use Rattle.format.proofs.LeastOnLoop.{least_on_loop}
use Rattle.format.proofs.FirstMet.{first_met, met_stands}

abbrev Early : Row → Type 0
Early r = r.number < 18

end : All Early []
end = all_nil Early

module _ (strict : Bool) (E : Edition) (s : List ℕ) where
  count_early : (p least greatest : ℕ) → All Early (count_rows s p least greatest)
  count_early p least greatest = lit< tt and lit< tt and end

  early : All Early (bytes_rows strict E s)
  unfolding bytes_rows
  early =
      (count_early 0 least_nodes most_nodes then all_each (nodes_counted s) (node_rows s) (λ v h. lit< tt and lit< tt and end))
      then (count_early (modules_place s) 0 most_modules then all_each (modules_counted s) (module_rows E s) (λ m h. lit< tt and lit< tt and lit< tt and lit< tt and lit< tt and end))
      then all_each (nodes_counted s) (start_rows E s) (λ v h. lit< tt and end)
      then (count_early (drive_place E s) 0 most_events then all_each (events_counted E s) (event_rows E s) (λ e h. lit< tt and lit< tt and lit< tt and lit< tt and lit< tt and end))
      then all_where strict (each (nodes_counted s) (first_event_rows E s)) (λ is. all_each (nodes_counted s) (first_event_rows E s) (λ v h. lit< tt and end))
      then (count_early (watched_place E s) 0 most_watched then all_each (watched_counted E s) (watched_rows E s) (λ k h. lit< tt and lit< tt and end))
      then (lit< tt and end)

  pub loop_refused : (v : ℕ) → (checked_by strict E s ≡ refused 18 v 0) ↔ ((first (bytes_rows strict E s) ≡ finished 0) × LeastOnLoop (sheet_of E s) v)
  unfolding checked_by rows
  loop_refused v = (λ e. ⊎_elim (after e) (λ h. absurd (before h.0 h.1 e h.2)) (first_answers (bytes_rows strict E s)), λ h. passed_append (bytes_rows strict E s) loops h.0 ∙ (least_on_loop (sheet_of E s) v).1 h.1)
    where
      loops : List Row
      loops = loops_section (sheet_of E s)

      after : first (bytes_rows strict E s ++ loops) ≡ refused 18 v 0 → first (bytes_rows strict E s) ≡ finished 0 → (first (bytes_rows strict E s) ≡ finished 0) × LeastOnLoop (sheet_of E s) v
      after e c = (c, (least_on_loop (sheet_of E s) v).0 (sym (passed_append (bytes_rows strict E s) loops c) ∙ e))

      before : (n p : ℕ) → first (bytes_rows strict E s ++ loops) ≡ refused 18 v 0 → first (bytes_rows strict E s) ≡ refused n p 0 → ⊥
      before n p e r =
          let number : n ≡ 18 = cc (sym (refused_append (bytes_rows strict E s) loops r) ∙ e) in
          omega (arith, early (n at p when true) (met_stands (bytes_rows strict E s) n p (first_met (bytes_rows strict E s) n p r)))
