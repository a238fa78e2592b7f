-- What a call that makes bytes for an output comes to, once nothing is refused before them: a success is what is printed into it. Assumes nothing.
use mathlib.Core.List.{List}
use mathlib.Core.Path.{◌≡◌, sym, ap, ◌∙◌}
use Prim.Native.Nat.{ℕ}
use lib.ListN.{length}
use Rattle.sheet.specs.Outcome.{Outcome, finished}
use Rattle.format.specs.Made.{Made, written_answer, made_answer, Makes}
use Rattle.format.proofs.Made.{answers, success}
use Rattle.lent.specs.Lent.{Printed}
use Rattle.lent.proofs.Putting.{whole}

module _ {before : Outcome} {count : ℕ} (passed : finished count ≡ before) (made : Made) (output : List ℕ) where
  after_passed : {o : Outcome} → o ≡ written_answer made (length output) → o ≡ made_answer before made (length output)
  after_passed told = told ∙ ap (λ b. made_answer b made (length output)) passed

  pub made_of : {answer at : ℕ} {after : List ℕ} → finished answer ≡ written_answer made (length output) → Printed output made.bytes after at
      → Makes before made output (finished answer) after
  made_of told printed =
      let makes = answers {before = before} made output (sym (after_passed told)) in
      record { answered = after_passed told; left = (whole printed (success makes).fits).1 ∙ makes.left }
