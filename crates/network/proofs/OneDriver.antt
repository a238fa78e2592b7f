-- A sheet with one driver a node has the cells, the listing and the answers that it had: the join of one contribution is that contribution, so a node's equation is its driver's, and its
-- driver's contribution changes where its cells do. Assumes nothing.
use lib.Dec.{eqb, ltb}
use lib.ListN.{length}
use borrow.Author.Tests.{eqb-true, eq-eqb, ltb-true}
use mathlib.Core.Bool.{Bool, true, false, ◌&&◌}
use mathlib.Core.List.{List, [], ◌∷◌}
use mathlib.Core.Logic.{◌↔◌, ◌⊎◌, inl, inr}
use mathlib.Core.Path.{◌≡◌, refl, sym, ap, ◌∙◌, subst}
use native.Mathlib.Omega.{arith}
use Prim.Native.Nat.{ℕ, suc, ◌+◌, ◌<◌}
use Rattle.std.specs.Prelude.{if◌then◌else◌}
use Rattle.level.specs.Join.{joined}
use Rattle.level.proofs.Join.{neutral_right}
use Rattle.sheet.specs.declared.Edition.{Edition}
use Rattle.sheet.specs.Limits.{pending_limit}
use Rattle.sheet.specs.Outcome.{Outcome, finished, refused}
use Rattle.sheet.specs.Refusal.{checked}
use Rattle.sheet.specs.Sheet.{Sheet, module_count, module_of, output_of}
use Rattle.sheet.specs.Layout.{sheet_of}
use Rattle.sheet.proofs.Chosen.{chosen_one}
use Rattle.sheet.proofs.Each.{each_same}
use Rattle.format.specs.Accepted.{Known}
use Rattle.format.specs.OneDriver.{OneDriver, checked_with9}
use Rattle.format.proofs.Accepted.{accepted}
use Rattle.format.proofs.Condition.{tells_driven}
use Rattle.format.proofs.OneDriver.{checked_as_before}
use Rattle.network.specs.Buffer.{room}
use Rattle.network.specs.Ends.{ended_listing}
use Rattle.network.specs.Listing.{changes, listing, pending_of, pending}
use Rattle.network.specs.OneDriver.{SatisfiedByOne, pending_at_output, pending_at_outputs, tick_rows_before, written_before, ran_before}
use Rattle.network.specs.Run.{is_horizon_outside, ran, tick_rows, first_tick, written_of, unless_refused, wrote}
use Rattle.network.specs.Satisfied.{Satisfied}
use Rattle.network.specs.Timeline.{Cells, contribution, contributions, driven_cell}
use Rattle.network.proofs.Passing.{passes, passing}
use Rattle.network.proofs.PendingCount.{changes_same, tested}
use Rattle.network.proofs.Runs.{checks, ran-outside, ran_refused, ran_satisfied, ran_sheet_lem}

module _ (S : Sheet) (one : OneDriver S) (c : Cells) where
  -- the old equation is a law of the new
  pub old_equation : (t m : ℕ) → m < module_count S → driven_cell S c (output_of S m) t ≡ contribution S c m t
  old_equation t m h =
      ap joined (chosen_one (module_count S) (λ n. eqb (output_of S n) (output_of S m)) (contributions S c t) m h (eq-eqb (output_of S m) (output_of S m) refl) (λ n l e. one n m l h (eqb-true (output_of S n) (output_of S m) e)))
      ∙ neutral_right (contribution S c m t)

  -- so the same timelines satisfy the sheet
  pub same_timelines : (horizon : ℕ) → SatisfiedByOne S horizon c ↔ Satisfied S horizon c
  same_timelines horizon = (
    λ s. record { inputs = s.inputs; driven = λ t v h i. let d = (tells_driven S v).0 (passes _ i) in subst (λ v. c t v ≡ driven_cell S c v t) d.output (s.modules t d.driver h d.listed ∙ sym (old_equation t d.driver d.listed)) },
    λ s. record { inputs = s.inputs; modules = λ t m h l. s.driven t (output_of S m) h (passing ((tells_driven S (output_of S m)).1 (record { driver = m; listed = l; output = refl }))) ∙ old_equation t m l },
  )

  module _ (horizon : ℕ) (sat : SatisfiedByOne S horizon c) where
    -- the same changes are pending
    pub same_pending : (t : ℕ) → pending S c horizon t ≡ pending_at_outputs S c horizon t
    same_pending t = each_same (module_count S) (pending_of S c horizon t) (pending_at_output S c horizon t) (λ m h. each_same (module_of S m).delay _ _ (λ k l. ap (λ b. if b then record { driver = m; due = t + suc k } ∷ [] else []) (due m h k)))
      where
        due : (m : ℕ) → m < module_count S → (k : ℕ) → (ltb (t + suc k) horizon && changes (contributions S c) m (t + suc k)) ≡ (ltb (t + suc k) horizon && changes c (output_of S m) (t + suc k))
        due m h k =
            tested (ltb (t + suc k) horizon) _ _
            (λ b. changes_same (contributions S c) c m (output_of S m) (t + suc k) (λ u l. sym (sat.modules u m (omega (arith, ltb-true (t + suc k) horizon b)) h)))

    -- and the same is written
    pub same_written : (bytes : ℕ) → written_of S c horizon bytes ≡ written_before S c horizon bytes
    unfolding written_of
    same_written bytes =
        ap (λ rows. first_tick rows (ended_listing S c horizon))
        (each_same horizon (tick_rows S c horizon bytes) (tick_rows_before S c horizon bytes)
        (λ t h i.
        record { number = 19; tick = t; met = ltb (room bytes) (length (listing S c (suc t))); left = ended_listing S c t }
        ∷ record { number = 20; tick = t; met = ltb pending_limit (length (same_pending t i)); left = ended_listing S c (suc t) }
        ∷ []))

-- over bytes, and any set of timelines that satisfies the sheet as it was said before
pub run_as_before : {E : Edition} → Known E → (s : List ℕ) → OneDriver (sheet_of E s) → (horizon : ℕ) (c : Cells) → (checked E s ≡ finished 0 → SatisfiedByOne (sheet_of E s) horizon c)
    → (bytes : ℕ) → ran E s horizon bytes ≡ ran_before E s c horizon bytes
run_as_before {E} known s one horizon c sat bytes = by (is_horizon_outside horizon) refl
  where
    S : Sheet
    S = sheet_of E s

    before : {o : Outcome} → checked E s ≡ o → unless_refused o (written_before (sheet_of E s) c horizon bytes) ≡ unless_refused (checked_with9 false E s) (written_before (sheet_of E s) c horizon bytes)
    before e = ap (λ o. unless_refused o (written_before (sheet_of E s) c horizon bytes)) (sym e ∙ sym (checked_as_before false E s one))

    in_range : is_horizon_outside horizon ≡ false → (checked E s ≡ finished 0) ⊎ ((n : ℕ) × (p : ℕ) × (checked E s ≡ refused n p 0))
        → ran E s horizon bytes ≡ unless_refused (checked_with9 false E s) (written_before (sheet_of E s) c horizon bytes)
    in_range range (inl e) =
        ran_sheet_lem E s horizon bytes range e
        ∙ ran_satisfied (sheet_of E s) (accepted E known s e).sheet horizon c ((same_timelines (sheet_of E s) one c horizon).0 (sat e)) bytes
        ∙ same_written (sheet_of E s) one c horizon (sat e) bytes
        ∙ before e
    in_range range (inr (n, p, e)) = ran_refused E s horizon bytes range e ∙ before e

    by : (b : Bool) → is_horizon_outside horizon ≡ b → ran E s horizon bytes ≡ (if b then wrote (refused 1 0 0) [] else unless_refused (checked_with9 false E s) (written_before (sheet_of E s) c horizon bytes))
    by true out = ran-outside E s horizon bytes out
    by false range = in_range range (checks E s)
