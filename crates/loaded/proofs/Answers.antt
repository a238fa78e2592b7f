-- What is refused before the output is looked at: what the sheet's own edition refuses, then a count that is too great, and otherwise nothing. Assumes nothing.
use lib.Dec.{eqb, ltb}
use lib.ListN.{length, take, drop}
use mathlib.Core.Bool.{false, ◌&&◌}
use mathlib.Core.List.{List, ◌++◌}
use mathlib.Core.Logic.{◌⊎◌, inl, inr}
use mathlib.Core.Path.{◌≡◌, sym, ◌∙◌}
use native.Mathlib.Omega.{arith}
use Prim.Native.Nat.{ℕ, ◌+◌, ◌<◌, ◌≤◌}
use Rattle.sheet.specs.declared.refusal.Refusal.{Refusal}
use Rattle.sheet.specs.declared.Edition.{Edition}
use Rattle.sheet.specs.Limits.{most_events}
use Rattle.sheet.specs.Layout.{drive_place, watched_place}
use Rattle.sheet.specs.Outcome.{Outcome, finished, refused}
use Rattle.sheet.specs.Refusal.{rows, first, checked_by, checked}
use Rattle.sheet.specs.Told.{as_refused}
use Rattle.sheet.proofs.Told.{is_refused}
use Rattle.sheet.proofs.Rows.{passed_append, refused_append, both_passed, finished≢refused}
use Rattle.sheet.proofs.Tests.{Tells, fails, at_most, tells_and, tells_eq, tells_lt, tells_or}
use Rattle.format.specs.Made.{Makes, sheet_made}
use Rattle.draw.specs.Drive.{drawn_drive, drive_bytes}
use Rattle.loaded.specs.Loaded.{inputs_in, loaded}
use Rattle.loaded.proofs.Making.{not_begun}
use Rattle.loaded.specs.Loading.{drawn_too_many, too_many, drawn_rows, load_rows, Loads}

-- inputs plus n above 1,024, or n above 0 with no input
abbrev pub TooMany : ℕ → ℕ → Type 0
TooMany inputs n = (most_events < inputs + n) ⊎ ((0 < n) × (inputs ≡ 0))

pub tells_too_many : (inputs n : ℕ) → Tells (too_many inputs n) (TooMany inputs n)
tells_too_many inputs n =
    tells_or (ltb most_events (inputs + n)) (ltb 0 n && eqb inputs 0) (tells_lt most_events (inputs + n)) (tells_and (ltb 0 n) (eqb inputs 0) (tells_lt 0 n) (tells_eq inputs 0))

pub drawn_refused : (inputs n : ℕ) → TooMany inputs n → first (drawn_rows inputs n) ≡ refused drawn_too_many 0 0
unfolding first
drawn_refused inputs n h = rw ((tells_too_many inputs n).1 h)

pub drawn_passed : (inputs n : ℕ) → (TooMany inputs n → ⊥) → first (drawn_rows inputs n) ≡ finished 0
unfolding first
drawn_passed inputs n h = rw ((fails (too_many inputs n) (tells_too_many inputs n)).1 h)

pub few_drawn : (inputs n : ℕ) {k : ℕ} → first (drawn_rows inputs n) ≡ finished k → TooMany inputs n → ⊥
few_drawn inputs n e h = finished≢refused (sym e ∙ drawn_refused inputs n h)

-- what passes: no more events than a drive takes, and an input if any is drawn
pub passing : (inputs n : ℕ) → (TooMany inputs n → ⊥) → (inputs + n ≤ most_events) × (0 < n → 0 < inputs)
passing inputs n h = (at_most (λ l. h (inl l)), λ l. some (λ e. h (inr (l, e))))
  where
    some : (inputs ≡ 0 → ⊥) → 0 < inputs
    some d = omega arith

pub drawn_few : (inputs n : ℕ) {k : ℕ} → finished k ≡ first (drawn_rows inputs n) → (inputs + n ≤ most_events) × (0 < n → 0 < inputs)
drawn_few inputs n e = passing inputs n (few_drawn inputs n (sym e))

module _ (e : Edition) (s : List ℕ) (n : ℕ) where
  -- what the sheet's own edition refuses stands
  pub own_refused : {m p k : ℕ} → checked e s ≡ refused m p k → first (load_rows e s n) ≡ refused m p k
  unfolding load_rows checked_by
  own_refused = refused_append (rows false e s) (drawn_rows (length (inputs_in e s)) n)

  -- once it accepts the sheet, the counts decide
  pub own_passed : checked e s ≡ finished 0 → first (load_rows e s n) ≡ first (drawn_rows (length (inputs_in e s)) n)
  unfolding load_rows checked_by
  own_passed = passed_append (rows false e s) (drawn_rows (length (inputs_in e s)) n)

  pub both_passed_by : first (load_rows e s n) ≡ finished 0 → (checked e s ≡ finished 0) × (TooMany (length (inputs_in e s)) n → ⊥)
  unfolding load_rows checked_by
  both_passed_by h = let both = both_passed (rows false e s) (drawn_rows (length (inputs_in e s)) n) h in (both.0, few_drawn (length (inputs_in e s)) n both.1)

  -- a refusal of the check is the load's
  pub not_accepted : (seed : ℕ) (output : List ℕ) (r : Refusal) → checked e s ≡ as_refused r → Loads e s seed n output (as_refused r) output
  not_accepted seed output r told = let h = is_refused r in not_begun (sheet_made (loaded e s seed n)) output r (h.3 ∙ sym (own_refused (told ∙ h.3)))

  -- and a load by its parts: what stands before the drive's section and after it, and the inputs
  pub by_parts : checked e s ≡ finished 0 → (seed : ℕ) {before behind inputs output after : List ℕ} {answer : Outcome}
      → before ≡ take (drive_place e s) s → behind ≡ drop (watched_place e s) s → inputs ≡ inputs_in e s
      → Makes (first (drawn_rows (length inputs) n)) (sheet_made (before ++ drive_bytes (drawn_drive inputs seed n) ++ behind)) output answer after
      → Loads e s seed n output answer after
  unfolding loaded
  by_parts ok seed from to given makes = rw (own_passed ok) (rw (from, to, given) at makes)
