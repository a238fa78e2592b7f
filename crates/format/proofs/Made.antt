-- What a call that makes bytes answers and leaves, case by case: refused before, refused for its output, or finished. Assumes nothing.
use borrow.Author.Tests.{lt-ltb, le-ltb, ltb-true, ltb-false}
use mathlib.Core.Bool.{Bool, true, false}
use mathlib.Core.List.{List, ◌++◌}
use mathlib.Core.Path.{◌≡◌, refl, sym, ap, ◌∙◌}
use Prim.Native.Nat.{ℕ, ◌<◌, ◌≤◌}
use lib.Dec.{ltb}
use lib.ListN.{length, drop}
use Rattle.sheet.specs.Outcome.{Outcome, finished, refused}
use Rattle.sheet.proofs.Rows.{finished≢refused}
use Rattle.format.specs.Made.{Made, made_answer, output_after, Makes}

module _ {before : Outcome} (made : Made) (output : List ℕ) where
  -- what is answered decides what is left
  pub answers : {o : Outcome} → made_answer before made (length output) ≡ o → Makes before made output o (output_after o made.bytes output)
  answers e = record { answered = sym e; left = sym (ap (λ o. output_after o made.bytes output) e) }

  after : {b : Outcome} → before ≡ b → made_answer before made (length output) ≡ made_answer b made (length output)
  after e = ap (λ b. made_answer b made (length output)) e

  pub refused_before : {n p k : ℕ} → before ≡ refused n p k → Makes before made output (refused n p k) output
  refused_before e = answers (after e)

  pub refused_short : {k : ℕ} → before ≡ finished k → length output < length made.bytes → Makes before made output (refused made.number made.place made.count) output
  refused_short e h = answers (after e ∙ rw (lt-ltb (length output) (length made.bytes) h))

  pub made_whole : {k : ℕ} → before ≡ finished k → length made.bytes ≤ length output
      → Makes before made output (finished made.answer) (made.bytes ++ drop (length made.bytes) output)
  made_whole e h = answers (after e ∙ rw (le-ltb (length output) (length made.bytes) h))

-- answer and output are determined
pub made_same : {before : Outcome} {made : Made} {output : List ℕ} {a b : Outcome} {x y : List ℕ} → Makes before made output a x → Makes before made output b y → (a ≡ b) × (x ≡ y)
made_same m n = (m.answered ∙ sym n.answered, m.left ∙ sym n.left)

-- A success is answered where nothing is refused before and the output takes what is made.
pub record Success (before : Outcome) (made : Made) (output : List ℕ) (count : ℕ) (after : List ℕ) : Type 0 where
  pub passed : (k : ℕ) × (before ≡ finished k)
  pub fits : length made.bytes ≤ length output
  pub counted : count ≡ made.answer
  pub left : after ≡ made.bytes ++ drop (length made.bytes) output

pub success : {before : Outcome} {made : Made} {output : List ℕ} {count : ℕ} {after : List ℕ} → Makes before made output (finished count) after → Success before made output count after
success {before} {made} {output} {count} {after} m = by before refl (ltb (length output) (length made.bytes)) refl
  where
    by : (b : Outcome) → before ≡ b → (t : Bool) → ltb (length output) (length made.bytes) ≡ t → Success before made output count after
    by (refused n p k) e t f = absurd (finished≢refused (made_same m (refused_before made output e)).0)
    by (finished k) e true f = absurd (finished≢refused (made_same m (refused_short made output e (lt f))).0)
      where
        lt : ltb (length output) (length made.bytes) ≡ true → length output < length made.bytes
        lt = ltb-true (length output) (length made.bytes)
    by (finished k) e false f =
        let fits : length made.bytes ≤ length output = ltb-false (length output) (length made.bytes) f in
        let same = made_same m (made_whole made output e fits) in
        record { passed = (k, e); fits = fits; counted = counts same.0; left = same.1 }
      where
        counts : finished count ≡ finished made.answer → count ≡ made.answer
        counts e = cc
