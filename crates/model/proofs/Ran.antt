-- What the model's run tells of the run of an accepted sheet: by the first tick that does not pass, its answer and the records that it leaves. Any two arrangements of the
-- pending changes give the same run. Assumes nothing.
use lib.ListN.{length, length-map}
use mathlib.Core.Path.{◌≡◌, sym, ap, ◌∙◌}
use native.Mathlib.Omega.{arith}
use Prim.Native.Nat.{ℕ, suc, ◌<◌, ◌≤◌}
use Rattle.sheet.specs.Limits.{pending_limit}
use Rattle.sheet.specs.Outcome.{Outcome, finished, refused}
use Rattle.sheet.specs.Sheet.{Sheet}
use Rattle.sheet.specs.WorkingOrder.{working_order}
use Rattle.format.specs.Accepted.{Accepted}
use Rattle.network.specs.Buffer.{room}
use Rattle.network.specs.Ends.{ended_of, ended_listing}
use Rattle.network.specs.Listing.{listing}
use Rattle.network.specs.Run.{wrote, cells_of, ran_sheet}
use Rattle.network.specs.RunConditions.{Passed}
use Rattle.network.proofs.Outcome as outcome
use Rattle.network.proofs.Runs.{satisfied}
use Rattle.network.proofs.WorkingOrder.{working_order_lem}
use Rattle.model.specs.Store.{Store}
use Rattle.model.specs.State.{State}
use Rattle.model.specs.Ticks.{Begun, state_at, records_below}
use Rattle.model.proofs.Setting.{Setting}
use Rattle.model.proofs.Stands.{records, pendings}

-- a tick passes: its records find room, and no more changes are pending after it than may be
pub record Passes (store : Store) (S : Sheet) (horizon : ℕ) (st : State store) (bytes t : ℕ) : Type 0 where
  pub room_left : length (records_below store S horizon st (suc t)) ≤ room bytes
  pub few_pending : store.count (state_at store S horizon st (suc t)).pending ≤ pending_limit

module _ {S : Sheet} (acc : Accepted S) (horizon : ℕ) where
  -- the cells that are worked
  pub setting : Setting S (cells_of S horizon) horizon
  setting = record { accepted = acc; satisfied = satisfied S acc horizon (λ t. working_order S) (λ t h. working_order_lem S acc) }

  pub same_run : {A B : Store} (a : State A) (b : State B) → Begun A S a → Begun B S b
      → ((t : ℕ) → t ≤ horizon → records_below A S horizon a t ≡ records_below B S horizon b t)
      × ((t : ℕ) → t < horizon → A.count (state_at A S horizon a (suc t)).pending ≡ B.count (state_at B S horizon b (suc t)).pending)
  same_run a b p q = (λ t h. records setting a p t h ∙ sym (records setting b q t h), λ t h. pendings setting a p t h ∙ sym (pendings setting b q t h))

  module _ {store : Store} (st : State store) (begun : Begun store S st) (bytes : ℕ) where
    passed : (t : ℕ) → t < horizon → Passes store S horizon st bytes t → Passed S (cells_of S horizon) horizon bytes t
    passed t h p = record { room_left = rw (records setting st begun (suc t) h) at p.room_left; few_pending = rw (pendings setting st begun t h) at p.few_pending }

    -- the records below a bound are the listing's, which get their ends by the cells
    pub so_far : (t : ℕ) → t ≤ horizon → records_below store S horizon st t ≡ listing S (cells_of S horizon) t
    so_far = records setting st begun

    counted : (t : ℕ) → t ≤ horizon → (o : ℕ → Outcome)
        → wrote (o (length (ended_listing S (cells_of S horizon) t))) (ended_listing S (cells_of S horizon) t)
        ≡ wrote (o (length (records_below store S horizon st t))) (ended_listing S (cells_of S horizon) t)
    counted t h o =
        ap (λ n. wrote (o n) (ended_listing S (cells_of S horizon) t)) (length-map (listing S (cells_of S horizon) t) (ended_of (cells_of S horizon) t) ∙ ap length (sym (so_far t h)))

    -- 19: no room for a tick's records
    pub full : (t : ℕ) → t < horizon → ((u : ℕ) → u < t → Passes store S horizon st bytes u) → room bytes < length (records_below store S horizon st (suc t))
        → ran_sheet S horizon bytes ≡ wrote (refused 19 t (length (records_below store S horizon st t))) (ended_listing S (cells_of S horizon) t)
    full t h before over =
        outcome.full S (cells_of S horizon) horizon bytes t h (λ u l. passed u (omega arith) (before u l)) (rw (so_far (suc t) h) at over)
        ∙ counted t (omega arith) (refused 19 t)

    -- 20: too many changes pending
    pub crowded : (t : ℕ) → t < horizon → ((u : ℕ) → u < t → Passes store S horizon st bytes u) → length (records_below store S horizon st (suc t)) ≤ room bytes
        → pending_limit < store.count (state_at store S horizon st (suc t)).pending
        → ran_sheet S horizon bytes ≡ wrote (refused 20 t (length (records_below store S horizon st (suc t)))) (ended_listing S (cells_of S horizon) (suc t))
    crowded t h before fits over =
        outcome.crowded S (cells_of S horizon) horizon bytes t h (λ u l. passed u (omega arith) (before u l)) (rw (so_far (suc t) h) at fits) (rw (pendings setting st begun t h) at over)
        ∙ counted (suc t) h (refused 20 t)

    -- every tick passes
    pub whole : ((t : ℕ) → t < horizon → Passes store S horizon st bytes t)
        → ran_sheet S horizon bytes ≡ wrote (finished (length (records_below store S horizon st horizon))) (ended_listing S (cells_of S horizon) horizon)
    whole all = outcome.whole S (cells_of S horizon) horizon bytes (λ t h. passed t h (all t h)) ∙ counted horizon (omega arith) finished
