-- A sheet with one driver a node is checked as it was when the table had the row of 9; any other was answered so too, or with 9. Assumes nothing.
use mathlib.Core.Bool.{Bool, true, false}
use mathlib.Core.List.{List}
use mathlib.Core.Logic.{◌⊎◌, inl, inr}
use mathlib.Core.Path.{◌≡◌, refl, sym, ap, ◌∙◌}
use native.Mathlib.Omega.{arith}
use Prim.Native.Nat.{ℕ, ◌<◌}
use lib.Dec.{eqb}
use Rattle.sheet.specs.declared.Edition.{Edition}
use Rattle.sheet.specs.Enumerate.{any_below, each}
use Rattle.sheet.specs.Limits.{most_modules}
use Rattle.sheet.specs.Sheet.{Sheet, module_count, output_of}
use Rattle.sheet.specs.Layout.{first_edition, nodes_counted, modules_place, modules_counted, module_at, sheet_of}
use Rattle.sheet.specs.Wiring.{driven_by}
use Rattle.sheet.specs.Loop.{leads_over}
use Rattle.sheet.specs.Outcome.{refused}
use Rattle.sheet.specs.Refusal.{Row, count_rows, module_rows, start_rows, not_above_event, not_above_watched, nodes_section, modules_section, drive_section, first_events_section, watched_section, left_over_rows, loops_section, bytes_rows, rows, first, checked_by}
use Rattle.sheet.proofs.Computed.{shared}
use Rattle.sheet.proofs.Parts.{counts_modules, module_of_lem}
use Rattle.sheet.proofs.Rows.{All, all_nil, ◌and◌}
use Rattle.sheet.proofs.Tests.{tells_below, tells_eq}
use Rattle.format.specs.OneDriver.{OneDriver, already_driven_rows, modules_section_with9, rows_with9, checked_with9}
use Rattle.format.proofs.MoreRows.{Agrees, alike, decided, same, more, ◌next◌, next_each}

module _ (E : Edition) (s : List ℕ) where
  abbrev S : Sheet
  S = sheet_of E s

  -- 9 is met: a module drives a node that an earlier one drives
  record Second (n p : ℕ) : Type 0 where
    number : n ≡ 9
    driver : ℕ
    listed : driver < modules_counted s
    earlier : driven_by S driver (module_at E s driver).output ≡ true

  abbrev Known-9 : Row → Type 0
  Known-9 r = r.met ≡ true → Second r.number r.place

  second : (m : ℕ) → m < modules_counted s → All Known-9 (already_driven_rows E s m)
  second m h = ◌and◌ {C = Known-9} (λ met. record { number = refl; driver = m; listed = h; earlier = met }) (all_nil Known-9)

  modules : Agrees Second (modules_section_with9 E s) (modules_section E s)
  modules =
      same (count_rows s (modules_place s) 0 most_modules)
      next next_each (modules_counted s) _ (module_rows E s) (λ m h. same (module_rows E s m) next more (already_driven_rows E s m) (second m h))

  table : (strict : Bool) → Agrees Second (rows_with9 strict E s) (rows strict E s)
  unfolding rows_with9 rows bytes_rows
  table strict =
      same (nodes_section s)
      next modules
      next same (each (nodes_counted s) (start_rows E s))
      next same (drive_section E s)
      next same (first_events_section strict E s)
      next same (watched_section E s)
      next same (left_over_rows E s)
      next same (loops_section S)

  none_second : OneDriver S → {n p : ℕ} → Second n p → ⊥
  none_second one q =
      let m = q.driver in
      let out = (module_at E s m).output in
      let other = (tells_below m (λ a. eqb (output_of S a) out) (λ a. tells_eq (output_of S a) out)).0 q.earlier in
      let listed : m < module_count S = rw (counts_modules E s) q.listed in
      let is = one other.0 m (omega (arith, other.1, listed)) listed (other.2 ∙ sym (ap (λ r. r.output) (module_of_lem E s m q.listed))) in
      omega (arith, is, other.1)

pub checked_as_before : (strict : Bool) (E : Edition) (s : List ℕ) → OneDriver (sheet_of E s) → checked_with9 strict E s ≡ checked_by strict E s
unfolding checked_by
checked_as_before strict E s one = by (table E s strict)
  where
    by : Agrees (Second E s) (rows_with9 strict E s) (rows strict E s) → first (rows_with9 strict E s) ≡ first (rows strict E s)
    by (alike e) = e
    by (decided q e) = absurd (none_second E s one q)

pub as_before_or_9 : (strict : Bool) (E : Edition) (s : List ℕ) → (checked_with9 strict E s ≡ checked_by strict E s) ⊎ ((p : ℕ) × (checked_with9 strict E s ≡ refused 9 p 0))
unfolding checked_by
as_before_or_9 strict E s = by (table E s strict)
  where
    by : Agrees (Second E s) (rows_with9 strict E s) (rows strict E s)
        → (first (rows_with9 strict E s) ≡ first (rows strict E s)) ⊎ ((p : ℕ) × (first (rows_with9 strict E s) ≡ refused 9 p 0))
    by (alike e) = inl e
    by (decided {n} {p} q e) = inr (p, e ∙ ap (λ n. refused n p 0) q.number)

-- two modules on one node, which both checks accept, had 9 at the second
shared_had_9 : (checked_with9 false first_edition (shared 0) ≡ refused 9 13 0) × (checked_with9 true first_edition (shared 0) ≡ refused 9 13 0)
unfolding rows_with9 sheet_of first each any_below leads_over not_above_event not_above_watched
shared_had_9 = (refl, refl)
