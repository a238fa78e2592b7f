-- A strict check's table is the other one with the inputs' first events after the drive: it answers 15, or what the other answers. Assumes nothing.
use mathlib.Core.Bool.{true, false}
use mathlib.Core.List.{List}
use mathlib.Core.Logic.{◌⊎◌, inl, inr}
use mathlib.Core.Path.{◌≡◌, refl, ap, ◌∙◌}
use Prim.Native.Nat.{ℕ}
use Rattle.sheet.specs.declared.Edition.{Edition}
use Rattle.sheet.specs.Enumerate.{each}
use Rattle.sheet.specs.Layout.{nodes_counted, sheet_of}
use Rattle.sheet.specs.Outcome.{refused}
use Rattle.sheet.specs.Refusal.{Row, nodes_section, modules_section, start_rows, drive_section, first_event_rows, first_events_section, watched_section, left_over_rows, loops_section, bytes_rows, rows, first, checked_by, checked, checked_strictly}
use Rattle.sheet.proofs.Rows.{All, all_nil, ◌and◌, all_each}
use Rattle.format.proofs.MoreRows.{Agrees, alike, decided, same, more, ◌next◌}

abbrev Of-15 : ℕ → ℕ → Type 0
Of-15 n p = n ≡ 15

module _ (E : Edition) (s : List ℕ) where
  abbrev Known-15 : Row → Type 0
  Known-15 r = r.met ≡ true → r.number ≡ 15

  numbered_15 : All Known-15 (first_events_section true E s)
  numbered_15 = all_each (nodes_counted s) (first_event_rows E s) (λ v h. ◌and◌ {C = Known-15} (λ met. refl) (all_nil Known-15))

  table : Agrees Of-15 (rows true E s) (rows false E s)
  unfolding rows bytes_rows
  table =
      same (nodes_section s)
      next same (modules_section E s)
      next same (each (nodes_counted s) (start_rows E s))
      next same (drive_section E s)
      next more (first_events_section true E s) numbered_15
      next same (watched_section E s)
      next same (left_over_rows E s)
      next same (loops_section (sheet_of E s))

  pub same_or_15 : (checked_strictly E s ≡ checked E s) ⊎ ((v : ℕ) × (checked_strictly E s ≡ refused 15 v 0))
  unfolding checked_by
  same_or_15 = by table
    where
      by : Agrees Of-15 (rows true E s) (rows false E s) → (first (rows true E s) ≡ first (rows false E s)) ⊎ ((v : ℕ) × (first (rows true E s) ≡ refused 15 v 0))
      by (alike e) = inl e
      by (decided {p} is e) = inr (p, e ∙ ap (λ n. refused n p 0) is)
