-- What a run is before its first tick: refused by its horizon or its sheet, with nothing written; or an accepted sheet to run. Assumes nothing.
use mathlib.Core.Bool.{Bool, true, false}
use mathlib.Core.List.{List, []}
use mathlib.Core.Logic.{inl, inr}
use mathlib.Core.Path.{◌≡◌, refl, sym, ap, ◌∙◌, subst}
use Prim.Native.Nat.{ℕ, ◌<◌, ◌≤◌}
use native.Mathlib.Omega.{arith}
use lib.Dec.{eqb, ltb}
use lib.ListN.{length}
use Rattle.std.specs.Prelude.{if◌then◌else◌}
use Rattle.sheet.specs.declared.refusal.Refusal.{Refusal}
use Rattle.sheet.specs.declared.Edition.{Edition}
use Rattle.sheet.specs.Limits.{greatest_horizon}
use Rattle.sheet.specs.Layout.{sheet_of}
use Rattle.sheet.specs.Outcome.{Outcome, finished, refused}
use Rattle.sheet.specs.Range.{horizon_answer}
use Rattle.sheet.specs.Refusal.{bytes_rows, loops_section, rows, first, checked_by, checked}
use Rattle.sheet.specs.Told.{as_refused}
use Rattle.sheet.proofs.Rows.{passed_append, finished≢refused}
use Rattle.sheet.proofs.Tests.{fails, tells_lt, tells_eq, tells_or, at_most}
use Rattle.sheet.proofs.Told.{is_refused, stopped}
use Rattle.network.specs.Buffer.{buffer_after}
use Rattle.network.specs.Run.{wrote, is_horizon_outside, ran, ran_sheet, Leaves, RunLeaves}
use Rattle.network.proofs.Runs.{ran-outside, ran_refused, ran_sheet_lem}
use Rattle.listing.proofs.Buffer.{buffer-none}

abbrev answer_if : Bool → Outcome
answer_if out = if out then refused 1 0 0 else finished 0

-- a horizon that passes is in its range
pub in_range : (horizon : ℕ) → finished 0 ≡ horizon_answer horizon → is_horizon_outside horizon ≡ false
in_range horizon e = by (is_horizon_outside horizon) refl
  where
    by : (b : Bool) → is_horizon_outside horizon ≡ b → is_horizon_outside horizon ≡ false
    by true out = absurd (finished≢refused (e ∙ ap answer_if out))
    by false range = range

pub within : (horizon : ℕ) → is_horizon_outside horizon ≡ false → (0 < horizon) × (horizon ≤ greatest_horizon)
within horizon range =
    let out = (fails (is_horizon_outside horizon) (tells_or (eqb horizon 0) (ltb greatest_horizon horizon) (tells_eq horizon 0) (tells_lt greatest_horizon horizon))).0 range in
    let some : horizon ≡ 0 → ⊥ = λ e. out (inl e) in
    (omega (arith, some), at_most (λ h. out (inr h)))

module _ (E : Edition) (s : List ℕ) (horizon : ℕ) (buffer : List ℕ) where
  -- the run answers so and leaves the buffer as it is
  nothing_written : (o : Outcome) → ran E s horizon (length buffer) ≡ wrote o [] → RunLeaves E s horizon buffer o buffer
  nothing_written o e = record { answered = sym (ap (λ w. w.answer) e); left = sym (ap (λ w. buffer_after w.records buffer) e ∙ buffer-none buffer) }

  -- a horizon that is refused, by any answer
  pub range_refused : (o : Outcome) → o ≡ horizon_answer horizon → {n p k : ℕ} → o ≡ refused n p k → RunLeaves E s horizon buffer o buffer
  range_refused o e told = by (is_horizon_outside horizon) refl
    where
      by : (b : Bool) → is_horizon_outside horizon ≡ b → RunLeaves E s horizon buffer o buffer
      by true out = nothing_written o (ran-outside E s horizon (length buffer) out ∙ ap (λ x. wrote x []) (sym (e ∙ ap answer_if out)))
      by false range = absurd (finished≢refused (sym (e ∙ ap answer_if range) ∙ told))

  -- by the code's refusal
  pub range_told : (r : Refusal) → as_refused r ≡ horizon_answer horizon → RunLeaves E s horizon buffer (as_refused r) buffer
  range_told r e = range_refused (as_refused r) e (is_refused r).3

  module _ (range : is_horizon_outside horizon ≡ false) where
    -- a sheet that is refused, by any answer
    pub not_accepted : (o : Outcome) → o ≡ checked E s → {n p k : ℕ} → o ≡ refused n p k → RunLeaves E s horizon buffer o buffer
    not_accepted o e told = nothing_written o (ran_refused E s horizon (length buffer) range (sym e ∙ told) ∙ ap (λ x. wrote x []) (sym told))

    -- by the code's refusal
    pub refusal_told : (r : Refusal) → checked E s ≡ as_refused r → RunLeaves E s horizon buffer (as_refused r) buffer
    refusal_told r e = not_accepted (as_refused r) (sym e) (is_refused r).3

    -- one that is accepted
    pub accepted_leaves : checked E s ≡ finished 0 → {o : Outcome} {after : List ℕ} → Leaves (ran_sheet (sheet_of E s) horizon (length buffer)) buffer o after → RunLeaves E s horizon buffer o after
    accepted_leaves ok {o} {after} l = subst (λ w. Leaves w buffer o after) (sym (ran_sheet_lem E s horizon (length buffer) range ok)) l

-- the check meets the bytes' refusals first, and then a zero-delay loop
module _ (E : Edition) (s : List ℕ) where
  pub bytes_refused : (r : Refusal) → first (bytes_rows false E s) ≡ as_refused r → checked E s ≡ as_refused r
  unfolding checked_by rows
  bytes_refused r e = stopped r (bytes_rows false E s) (loops_section (sheet_of E s)) e

  pub loops_checked : first (bytes_rows false E s) ≡ finished 0 → checked E s ≡ first (loops_section (sheet_of E s))
  unfolding checked_by rows
  loops_checked e = passed_append (bytes_rows false E s) (loops_section (sheet_of E s)) e
