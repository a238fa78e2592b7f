-- What a call that makes bytes for an output comes to: refused before them, refused for the output, or a success, whose bytes are printed into it.
-- Assumes nothing.
use mathlib.Core.List.{List}
use mathlib.Core.Path.{◌≡◌, sym, ap, ◌∙◌}
use Prim.Native.Nat.{ℕ}
use lib.ListN.{length}
use Rattle.sheet.specs.declared.refusal.Refusal.{Refusal}
use Rattle.sheet.specs.Outcome.{Outcome, finished}
use Rattle.sheet.specs.Told.{as_refused}
use Rattle.sheet.proofs.Told.{is_refused}
use Rattle.format.specs.Made.{Made, written_answer, made_answer, output_after, Makes}
use Rattle.format.proofs.Made.{answers, refused_before, success}
use Rattle.lent.specs.Lent.{Printed}
use Rattle.lent.proofs.Putting.{whole}

pub not_begun : {before : Outcome} (made : Made) (output : List ℕ) (r : Refusal) → as_refused r ≡ before → Makes before made output (as_refused r) output
not_begun made output r told = let h = is_refused r in rw h.3 (refused_before made output (sym told ∙ h.3))

-- Once nothing is refused before:
module _ {before : Outcome} {count : ℕ} (passed : finished count ≡ before) (made : Made) (output : List ℕ) where
  after_passed : {o : Outcome} → o ≡ written_answer made (length output) → o ≡ made_answer before made (length output)
  after_passed told = told ∙ ap (λ b. made_answer b made (length output)) passed

  pub not_made : (r : Refusal) → as_refused r ≡ written_answer made (length output) → Makes before made output (as_refused r) output
  not_made r told =
      let h = is_refused r in
      record { answered = after_passed told; left = ap (λ o. output_after o made.bytes output) (sym h.3 ∙ after_passed told) }

  pub made_of : {answer at : ℕ} {after : List ℕ} → finished answer ≡ written_answer made (length output) → Printed output made.bytes after at
      → Makes before made output (finished answer) after
  made_of told printed =
      let makes = answers {before = before} made output (sym (after_passed told)) in
      record { answered = after_passed told; left = (whole printed (success makes).fits).1 ∙ makes.left }
