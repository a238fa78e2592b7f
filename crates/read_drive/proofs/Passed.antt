-- Reading the section event by event: what is known once k events are passed, and the rows that are left after all. Assumes nothing.
use mathlib.Core.Bool.{Bool}
use mathlib.Core.List.{List}
use mathlib.Core.Path.{◌≡◌, sym, ap, ◌∙◌}
use native.Mathlib.Omega.{arith}
use Prim.Native.Nat.{ℕ, ◌≤◌}
use Rattle.std.specs.Prelude.{Option}
use Rattle.sheet.specs.declared.Edition.{Edition}
use Rattle.sheet.specs.declared.Event.{Event}
use Rattle.sheet.specs.Flags.{Flags}
use Rattle.sheet.specs.Layout.{nodes_counted, drive_place, events_counted, event_at, sheet_of}
use Rattle.sheet.specs.Limits.{most_events}
use Rattle.sheet.specs.Refusal.{first, count_rows, event_rows}
use Rattle.sheet.specs.Sections.{rows_of_drive}
use Rattle.sheet.specs.Sheet.{no_event}
use Rattle.sheet.proofs.Rows.{passed_append}
use Rattle.read_nodes.proofs.Filling.{Reading, all_passed}
use Rattle.read_drive.specs.Told.{event_before}
use Rattle.read_drive.specs.Begun.{unbegun_section}
use Rattle.read_drive.proofs.Begun.{begun_in, first_rows}

-- they are read, the last is known, and the nodes that have begun are flagged
pub record Passed (e : Edition) (s : List ℕ) (count k : ℕ) (records : List Event) (before : Option Event) (begun : List Bool) : Type 0 where
  pub read : Reading (count_rows s (drive_place e s) 0 most_events) (event_rows e s) most_events no_event (events_counted e s) (event_at e s) count k records
  pub last : before ≡ event_before e s k
  pub flagged : Flags begun (begun_in (sheet_of e s) k)

-- all events are passed: the flags decide the rows that are left
pub rows_left : (strict : Bool) (e : Edition) (s : List ℕ) {nodes count k : ℕ} {records : List Event} {before : Option Event} {begun : List Bool} → Passed e s count k records before begun
    → k ≡ count → nodes ≡ nodes_counted s → nodes ≤ 256 → first (rows_of_drive strict e s) ≡ first (unbegun_section strict nodes begun)
rows_left strict e s {begun} passed all nodes few =
    passed_append _ _ (all_passed passed.read (omega arith) (omega arith)) ∙ ap first (sym (first_rows strict e s begun passed.flagged (all ∙ passed.read.counted) nodes few))
