-- A run writes what its condition says, and its condition is met: each answer of a run is given under its condition and under no other, over the cells of
-- any set of timelines that satisfies the sheet. Assumes nothing.
use lib.ListN.{length}
use borrow.Author.Tests.{eq-eqb, ne_eqb, lt-ltb, le-ltb}
use mathlib.Core.Bool.{false}
use mathlib.Core.List.{List}
use mathlib.Core.Logic.{◌↔◌, ◌⊎◌, inl, inr, ⊎_elim}
use mathlib.Core.Path.{◌≡◌, refl, sym, ap, ◌∙◌, subst}
use native.Mathlib.Decide.{ℕ_discrete, dec_le}
use native.Mathlib.Nat.{not-suc-le-zero}
use native.Mathlib.Omega.{arith}
use Prim.Native.Nat.{ℕ, zero, suc, ◌<◌, ◌≤◌}
use Rattle.sheet.specs.Layout.{sheet_of}
use Rattle.sheet.specs.Limits.{pending_limit, greatest_horizon}
use Rattle.sheet.specs.Outcome.{Outcome, finished, refused}
use Rattle.sheet.specs.Refusal.{checked}
use Rattle.sheet.specs.Sheet.{Sheet}
use Rattle.sheet.specs.declared.Edition.{Edition}
use Rattle.format.specs.Accepted.{Known}
use Rattle.format.specs.Condition.{Condition, FirstCondition}
use Rattle.format.proofs.Accepted.{accepted}
use Rattle.format.proofs.Theorems.{refusals, no_refusal, no_other_answer}
use Rattle.network.specs.Buffer.{room}
use Rattle.network.specs.Ends.{Ended, ended_listing}
use Rattle.network.specs.Listing.{listing, pending}
use Rattle.network.specs.Run.{Written, ran, is_horizon_outside, written_of}
use Rattle.network.specs.RunConditions.{Passes, Begins, RunCondition, horizon_outside, sheet_refused, no_room, crowded, whole}
use Rattle.network.specs.Satisfied.{Satisfied}
use Rattle.network.specs.Timeline.{Cells}
use Rattle.sheet.proofs.Rows.{finished≢refused}
use Rattle.network.proofs.Runs.{checks, ran-outside, ran_refused, ran_satisfied, ran_sheet_lem}
use Rattle.network.proofs.Outcome as outcome

module _ {E : Edition} (known : Known E) (s : List ℕ) (horizon bytes : ℕ) (cells : Cells) (satisfied : Begins E s horizon → Satisfied (sheet_of E s) horizon cells) where
  abbrev S : Sheet
  S = sheet_of E s

  in_range : 0 < horizon → horizon ≤ greatest_horizon → is_horizon_outside horizon ≡ false
  in_range some few = rw (ne_eqb horizon 0 (λ e. omega (arith, some, e)), le-ltb greatest_horizon horizon few)

  begun : Begins E s horizon → ran E s horizon bytes ≡ written_of S cells horizon bytes
  begun b =
      let e : checked E s ≡ finished 0 = (no_refusal false known s).1 b.none_met in
      ran_sheet_lem E s horizon bytes (in_range b.some_tick b.few_ticks) e ∙ ran_satisfied S (accepted E known s e).sheet horizon cells (satisfied b) bytes

  writes : (w : Written) → RunCondition E s cells horizon bytes w → ran E s horizon bytes ≡ w
  writes w (horizon_outside (inl e)) = ran-outside E s horizon bytes (rw (eq-eqb horizon 0 e))
  writes w (horizon_outside (inr h)) = ran-outside E s horizon bytes (rw (ne_eqb horizon 0 (λ e. omega (arith, h, e)), lt-ltb greatest_horizon horizon h))
  writes w (sheet_refused {n} {p} some few r) = ran_refused E s horizon bytes (in_range some few) ((refusals false known s n p).1 r)
  writes w (no_room t f over) = begun f.begins ∙ outcome.full S cells horizon bytes t f.below f.passed over
  writes w (crowded t f fits over) = begun f.begins ∙ outcome.crowded S cells horizon bytes t f.below f.passed fits over
  writes w (whole b all) = begun b ∙ outcome.whole S cells horizon bytes all

  abbrev Passed-here : ℕ → Type 0
  Passed-here = Passes E s cells horizon bytes

  -- a tick passes, or finds no room, or leaves too many changes pending
  data Tried (t : ℕ) : Type 0 where
    passes : Passed-here t → Tried t
    over : room bytes < length (listing S cells (suc t)) → Tried t
    many : length (listing S cells (suc t)) ≤ room bytes → pending_limit < length (pending S cells horizon t) → Tried t

  try : (t : ℕ) → Tried t
  try t = by_room (dec_le (length (listing S cells (suc t))) (room bytes)) (dec_le (length (pending S cells horizon t)) pending_limit)
    where
      by_room : Dec (length (listing S cells (suc t)) ≤ room bytes) → Dec (length (pending S cells horizon t) ≤ pending_limit) → Tried t
      by_room (yes r) (yes p) = passes (record { room_left = r; few_pending = p })
      by_room (yes r) (no d) = many r (omega arith)
      by_room (no d) q = over (omega arith)

  -- the ticks below a bound pass, or one of them is the first that does not
  ticks : Begins E s horizon → (n : ℕ) → n ≤ horizon → ((t : ℕ) → t < n → Passed-here t) ⊎ ((w : Written) × RunCondition E s cells horizon bytes w)
  ticks b zero h = inl (λ t l. absurd (not-suc-le-zero l))
  ticks b (suc n) h = ⊎_elim (λ before. next before (try n)) inr (ticks b n (omega arith))
    where
      next : ((t : ℕ) → t < n → Passed-here t) → Tried n → ((t : ℕ) → t < suc n → Passed-here t) ⊎ ((w : Written) × RunCondition E s cells horizon bytes w)
      next before (passes p) = inl (λ t l. at (ℕ_discrete t n) l)
        where
          at : {t : ℕ} → Dec (t ≡ n) → t < suc n → Passed-here t
          at (yes e) l = rw e p
          at {t} (no d) l = before t (omega arith)
      next before (over r) = inr (_, no_room n (record { begins = b; below = h; passed = before }) r)
      next before (many r p) = inr (_, crowded n (record { begins = b; below = h; passed = before }) r p)

  -- some condition is met
  some : (w : Written) × RunCondition E s cells horizon bytes w
  some = by_horizon (ℕ_discrete horizon 0) (dec_le horizon greatest_horizon)
    where
      by_horizon : Dec (horizon ≡ 0) → Dec (horizon ≤ greatest_horizon) → (w : Written) × RunCondition E s cells horizon bytes w
      by_horizon (yes e) q = (_, horizon_outside (inl e))
      by_horizon (no d) (no f) = (_, horizon_outside (inr (omega arith)))
      by_horizon (no d) (yes f) = ⊎_elim begins (λ r. (_, sheet_refused (omega arith) f ((refusals false known s r.0 r.1).0 r.2))) (checks E s)
        where
          begins : checked E s ≡ finished 0 → (w : Written) × RunCondition E s cells horizon bytes w
          begins e =
              let b : Begins E s horizon = record { some_tick = omega arith; few_ticks = f; none_met = (no_refusal false known s).0 e } in
              ⊎_elim (λ all. (_, whole b all)) (λ w. w) (ticks b horizon (omega arith))

  -- The answer and the records of a run are those whose condition is met, and no other condition is.
  pub run_conditions : (w : Written) → (ran E s horizon bytes ≡ w) ↔ RunCondition E s cells horizon bytes w
  run_conditions w = (λ e. subst (RunCondition E s cells horizon bytes) (sym (writes some.0 some.1) ∙ e) some.1, writes w)

-- A run that has finished: it began, every tick passed, and all records are written and counted.
pub record FinishedRun (E : Edition) (s : List ℕ) (c : Cells) (horizon bytes count : ℕ) (records : List Ended) : Type 0 where
  pub begins : Begins E s horizon
  pub passes : (t : ℕ) → t < horizon → Passes E s c horizon bytes t
  pub listed : records ≡ ended_listing (sheet_of E s) c horizon
  pub counted : count ≡ length records

count_of : {m n : ℕ} → finished m ≡ finished n → m ≡ n
count_of e = ap (λ (o : Outcome). elim o [ finished k ↦ k | refused a b c ↦ 0 ]) e

-- the greatest number of a sheet's refusals
sheet_number : {E : Edition} → Known E → (s : List ℕ) {n p : ℕ} → FirstCondition E s n p → n ≤ 18
sheet_number {E} known s {n} {p} r = ⊎_elim (λ e. absurd (finished≢refused (sym e ∙ (refusals false known s n p).1 r))) listed (no_other_answer false known s)
  where
    listed : ((m : ℕ) × (q : ℕ) × (2 ≤ m) × (m ≤ 18) × (checked E s ≡ refused m q 0)) → n ≤ 18
    listed (m, q, l, h, e) =
        let same : refused m q 0 ≡ refused n p 0 = sym e ∙ (refusals false known s n p).1 r in
        let i : m ≡ n = cc in
        omega (arith, h, i)

module _ {E : Edition} {s : List ℕ} {c : Cells} {horizon bytes : ℕ} where
  pub finished_run : (w : Written) → RunCondition E s c horizon bytes w → (count : ℕ) → w.answer ≡ finished count
      → FinishedRun E s c horizon bytes count w.records
  finished_run w (horizon_outside h) count e = absurd (finished≢refused (sym e))
  finished_run w (sheet_refused h k r) count e = absurd (finished≢refused (sym e))
  finished_run w (no_room t f o) count e = absurd (finished≢refused (sym e))
  finished_run w (crowded t f r p) count e = absurd (finished≢refused (sym e))
  finished_run w (whole b all) count e = record { begins = b; passes = all; listed = refl; counted = sym (count_of e) }

  -- a number above those of a sheet's refusals: the tick's, with the records below the bound of its answer
  pub refused_tick : Known E → (w : Written) → RunCondition E s c horizon bytes w → (n t count : ℕ) → 18 < n → w.answer ≡ refused n t count
      → Begins E s horizon × (((n ≡ 19) × (w.records ≡ ended_listing (sheet_of E s) c t)) ⊎ ((n ≡ 20) × (w.records ≡ ended_listing (sheet_of E s) c (suc t))))
  refused_tick known w (horizon_outside h) n t count above e = absurd (let i : 1 ≡ n = cc in omega arith)
  refused_tick known w (sheet_refused {n = m} some few r) n t count above e = absurd (let i : m ≡ n = cc in omega (arith, sheet_number known s r))
  refused_tick known w (no_room u f o) n t count above e =
      let tick : u ≡ t = cc in
      (f.begins, inl (cc, ap (ended_listing (sheet_of E s) c) tick))
  refused_tick known w (crowded u f r p) n t count above e =
      let tick : u ≡ t = cc in
      (f.begins, inr (cc, ap (λ u. ended_listing (sheet_of E s) c (suc u)) tick))
  refused_tick known w (whole b all) n t count above e = absurd (finished≢refused e)

  -- no run answers a number of the sheet's table whose condition is met nowhere
  pub never_answered : (k : ℕ) → 1 < k → k < 19 → ((p : ℕ) → Condition E s k p → ⊥) → (w : Written) → RunCondition E s c horizon bytes w → (place count : ℕ) → w.answer ≡ refused k place count → ⊥
  never_answered k l h none w (horizon_outside o) place count e = let n : ◌≡◌ {A = ℕ} 1 k = cc in omega (arith, n)
  never_answered k l h none w (sheet_refused {n} {p} o q r) place count e =
      let is : n ≡ k = cc in
      none p (subst (λ n. Condition E s n p) is r.met)
  never_answered k l h none w (no_room t f o) place count e = let n : ◌≡◌ {A = ℕ} 19 k = cc in omega (arith, n)
  never_answered k l h none w (crowded t f r p) place count e = let n : ◌≡◌ {A = ℕ} 20 k = cc in omega (arith, n)
  never_answered k l h none w (whole b all) place count e = absurd (finished≢refused e)
