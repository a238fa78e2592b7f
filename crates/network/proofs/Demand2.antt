-- The mission, demand 2, whole: for any set of timelines that satisfies the sheet, what a run answers and writes is what these timelines give. Such a set
-- exists wherever a run begins. Assumes nothing.
use mathlib.Core.Bool.{false, false≢true}
use mathlib.Core.List.{List}
use mathlib.Core.Logic.{◌↔◌, ◌⊎◌, ⊎_elim}
use mathlib.Core.Path.{◌≡◌, refl, sym, subst}
use native.Mathlib.Omega.{arith}
use Prim.Native.Nat.{ℕ, suc, ◌<◌}
use Rattle.sheet.specs.declared.Edition.{Edition}
use Rattle.sheet.specs.Layout.{sheet_of}
use Rattle.sheet.specs.Outcome.{finished, refused}
use Rattle.sheet.specs.Sheet.{Sheet}
use Rattle.format.specs.Accepted.{Accepted, Known}
use Rattle.network.specs.Demand2.{Lists, RunOf}
use Rattle.network.specs.Ends.{ended_listing}
use Rattle.network.specs.Run.{Written, cells_of, ran}
use Rattle.network.specs.RunConditions.{Begins, RunCondition}
use Rattle.network.specs.Satisfied.{Satisfied}
use Rattle.network.specs.Timeline.{Cells}
use Rattle.format.proofs.Accepted.{accepted}
use Rattle.format.specs.Condition.{Condition}
use Rattle.format.proofs.Table.{none_at_9, strict_at_15}
use Rattle.format.proofs.Theorems.{no_refusal}
use Rattle.network.proofs.Listing.{listing_of}
use Rattle.network.proofs.RunConditions.{FinishedRun, finished_run, refused_tick, never_answered, run_conditions}
use Rattle.network.proofs.Runs.{own_cells}

module _ {E : Edition} (known : Known E) (s : List ℕ) (horizon : ℕ) where
  pub sheet_accepted : Begins E s horizon → Accepted (sheet_of E s)
  sheet_accepted b = (accepted E known s ((no_refusal false known s).1 b.none_met)).sheet

  pub demand_2 : (bytes : ℕ) (c : Cells) → (Begins E s horizon → Satisfied (sheet_of E s) horizon c) → RunOf E s horizon bytes c
  demand_2 bytes c satisfied =
      record {
        answers = conditions;
        lists = λ count e.
            below (run count e).begins horizon (run count e).listed;
        counts = λ count e. (run count e).counted;
        left_by_19 = λ t count e.
            let (begun, left) = tick 19 t count (omega arith) e in
            ⊎_elim (λ l. below begun t l.1) (λ l. absurd (omega (arith, l.0))) left;
        left_by_20 = λ t count e.
            let (begun, left) = tick 20 t count (omega arith) e in
            ⊎_elim (λ l. absurd (omega (arith, l.0))) (λ l. below begun (suc t) l.1) left;
      }
    where
      S : Sheet
      S = sheet_of E s

      conditions : (w : Written) → (ran E s horizon bytes ≡ w) ↔ RunCondition E s c horizon bytes w
      conditions = run_conditions known s horizon bytes c satisfied

      tick : (n t count : ℕ) → 18 < n → (ran E s horizon bytes).answer ≡ refused n t count
          → Begins E s horizon × (((n ≡ 19) × ((ran E s horizon bytes).records ≡ ended_listing S c t)) ⊎ ((n ≡ 20) × ((ran E s horizon bytes).records ≡ ended_listing S c (suc t))))
      tick = refused_tick known (ran E s horizon bytes) ((conditions (ran E s horizon bytes)).0 refl)

      below : Begins E s horizon → (bound : ℕ) → (ran E s horizon bytes).records ≡ ended_listing S c bound → Lists S c bound (ran E s horizon bytes).records
      below begun bound e = subst (Lists S c bound) (sym e) (listing_of S (sheet_accepted begun) c bound)

      run : (count : ℕ) → (ran E s horizon bytes).answer ≡ finished count → FinishedRun E s c horizon bytes count (ran E s horizon bytes).records
      run = finished_run (ran E s horizon bytes) ((conditions (ran E s horizon bytes)).0 refl)

  -- such timelines exist: the sheet's own cells
  pub timelines_exist : Begins E s horizon → Satisfied (sheet_of E s) horizon (cells_of (sheet_of E s) horizon)
  timelines_exist b = own_cells (sheet_of E s) (sheet_accepted b) horizon

  -- No run answers 15, whatever its bytes, horizon and buffer: the row is a strict check's alone. Nor does one answer 9, which has no row.
  never : (k : ℕ) → 1 < k → k < 19 → ((p : ℕ) → Condition E s k p → ⊥) → (bytes place count : ℕ) → (ran E s horizon bytes).answer ≡ refused k place count → ⊥
  never k l h none bytes =
      let w = ran E s horizon bytes in
      never_answered k l h none w (((demand_2 bytes (cells_of (sheet_of E s) horizon) timelines_exist).answers w).0 refl)

  pub run_never_15 : (bytes place count : ℕ) → (ran E s horizon bytes).answer ≡ refused 15 place count → ⊥
  run_never_15 = never 15 (omega arith) (omega arith) (λ p c. false≢true (strict_at_15 c))

  pub run_never_9 : (bytes place count : ℕ) → (ran E s horizon bytes).answer ≡ refused 9 place count → ⊥
  run_never_9 = never 9 (omega arith) (omega arith) (λ p. none_at_9)
