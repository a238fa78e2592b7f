-- A run over an accepted sheet, its horizon in range, is what any set of timelines gives that satisfies the sheet. Cells worked in valid orders satisfy
-- it, and no others do. A sheet that runs to its horizon is such a one. Assumes nothing.
use mathlib.Core.Bool.{Bool, false, true}
use mathlib.Core.List.{List, []}
use mathlib.Core.Logic.{⊎_elim, ◌⊎◌}
use mathlib.Core.Path.{ap, refl, sym, ◌≡◌, ◌∙◌}
use Prim.Native.Nat.{ℕ}
use Rattle.std.specs.Prelude.{if◌then◌else◌}
use Rattle.sheet.specs.Layout.{sheet_of}
use Rattle.sheet.specs.Outcome.{finished, refused}
use Rattle.sheet.specs.Refusal.{rows, checked_by, checked}
use Rattle.sheet.specs.Sheet.{Sheet}
use Rattle.sheet.specs.WorkingOrder.{working_order}
use Rattle.sheet.specs.declared.Edition.{Edition}
use Rattle.format.specs.Accepted.{Accepted}
use Rattle.network.specs.Demand3.{Only, RunsToHorizon, ValidOrders}
use Rattle.network.specs.Run.{after_check, cells_of, is_horizon_outside, ran, ran_sheet, written_of, wrote}
use Rattle.network.specs.Satisfied.{Satisfied}
use Rattle.network.specs.Timeline.{Cells}
use Rattle.network.specs.Working.{worked}
use Rattle.sheet.proofs.Rows.{finished≢refused, first_answers}
use Rattle.network.proofs.Answers.{written_local}
use Rattle.network.proofs.Existence.{existence}
use Rattle.network.proofs.Listing.{watched_nodes}
use Rattle.network.proofs.Uniqueness.{uniqueness}
use Rattle.network.proofs.Wired.{wired}
use Rattle.network.proofs.WorkingOrder.{working_order_lem}

module _ (E : Edition) (s : List ℕ) (horizon bytes : ℕ) where
  -- a horizon outside its range is refused before anything is read
  pub ran-outside : is_horizon_outside horizon ≡ true → ran E s horizon bytes ≡ wrote (refused 1 0 0) []
  unfolding ran
  ran-outside out = ap (λ b. if b then wrote (refused 1 0 0) [] else after_check (sheet_of E s) horizon bytes (checked E s)) out

  module _ (range : is_horizon_outside horizon ≡ false) where
    after_check_lem : ran E s horizon bytes ≡ after_check (sheet_of E s) horizon bytes (checked E s)
    unfolding ran
    after_check_lem = ap (λ b. if b then wrote (refused 1 0 0) [] else after_check (sheet_of E s) horizon bytes (checked E s)) range

    -- then what the check refuses
    pub ran_refused : {n p k : ℕ} → checked E s ≡ refused n p k → ran E s horizon bytes ≡ wrote (refused n p k) []
    ran_refused c = after_check_lem ∙ ap (after_check (sheet_of E s) horizon bytes) c

    -- and else the sheet in the bytes runs
    pub ran_sheet_lem : checked E s ≡ finished 0 → ran E s horizon bytes ≡ ran_sheet (sheet_of E s) horizon bytes
    ran_sheet_lem c = after_check_lem ∙ ap (after_check (sheet_of E s) horizon bytes) c

-- a check accepts, or refuses with a number and a place
pub checks : (E : Edition) (s : List ℕ) → (checked E s ≡ finished 0) ⊎ ((n : ℕ) × (p : ℕ) × (checked E s ≡ refused n p 0))
unfolding checked_by
checks E s = first_answers (rows false E s)

module _ (E : Edition) (s : List ℕ) (horizon bytes : ℕ) (runs : RunsToHorizon E s horizon bytes) where
  -- the horizon and the check were passed
  pub in_range : is_horizon_outside horizon ≡ false
  in_range = go (is_horizon_outside horizon) refl
    where
      go : (b : Bool) → is_horizon_outside horizon ≡ b → is_horizon_outside horizon ≡ false
      go true out = absurd (finished≢refused (sym runs.answer ∙ ap (λ w. w.answer) (ran-outside E s horizon bytes out)))
      go false range = range

  pub accepted_run : checked E s ≡ finished 0
  accepted_run = ⊎_elim (λ h. h) (λ r. absurd (finished≢refused (sym runs.answer ∙ ap (λ w. w.answer) (ran_refused E s horizon bytes in_range r.2)))) (checks E s)

module _ (S : Sheet) (acc : Accepted S) (horizon : ℕ) (orders : ℕ → List ℕ) (valid : ValidOrders S horizon orders) where
  pub satisfied : Satisfied S horizon (worked S orders horizon)
  satisfied = existence S orders horizon valid

  pub only : Only S horizon (worked S orders horizon)
  only = uniqueness S (wired S acc) orders horizon valid

module _ (S : Sheet) (acc : Accepted S) (horizon : ℕ) where
  in_working_order_lem : ValidOrders S horizon (λ t. working_order S)
  in_working_order_lem t h = working_order_lem S acc

  -- the sheet's own cells are a set of timelines that satisfies it
  pub own_cells : Satisfied S horizon (cells_of S horizon)
  own_cells = satisfied S acc horizon (λ t. working_order S) in_working_order_lem

  -- a run is what any set of timelines gives that satisfies the sheet
  pub ran_satisfied : (c : Cells) → Satisfied S horizon c → (bytes : ℕ) → ran_sheet S horizon bytes ≡ written_of S c horizon bytes
  ran_satisfied c sat =
      written_local S (wired S acc) (watched_nodes S acc) (cells_of S horizon) c horizon
      (λ t v h l. sym (only S acc horizon (λ t. working_order S) in_working_order_lem c sat t v h l))
