-- What two calls left in their texts tells which answers they described: at the promise of `describe`. Assumes nothing.
use mathlib.Core.Bool.{Bool, true, false}
use mathlib.Core.List.{List}
use mathlib.Core.Path.{◌≡◌, refl, sym, ap, ◌∙◌}
use Prim.Native.Nat.{ℕ}
use native.Mathlib.Omega.{arith}
use lib.Dec.{ltb}
use lib.ListN.{length, take, drop}
use lib.Seq.{take_at}
use Rattle.sheet.specs.Outcome.{Outcome, finished}
use Rattle.sentence.specs.Sentence.{sentence, OfWords}
use Rattle.sentence.specs.Describing.{Describes, described, described_text}
use Rattle.sentence.proofs.Different.{same_answer}

-- a success answers the length of the sentence, which stands first in the text
told : {o : Outcome} {text after : List ℕ} {n : ℕ} → Describes o text (finished n) after → take n after ≡ sentence o
unfolding described described_text
told {o} {text} {after} {n} d = here (ltb (length text) (length (sentence o))) refl
  where
    here : (b : Bool) → ltb (length text) (length (sentence o)) ≡ b → take n after ≡ sentence o
    here true e =
        let refused = rw e at d.answered in
        let no : ◌≡◌ {A = ℕ} 0 1 = cc in absurd (omega arith)
    here false e =
        let answered = rw e at d.answered in
        let size : n ≡ length (sentence o) = cc in
        ap (take n) (rw e at d.left) ∙ take_at (sentence o) (drop (length (sentence o)) text) n (sym size)

pub texts_apart : {a b : Outcome} {s s' t t' : List ℕ} {n m : ℕ} → OfWords a → OfWords b → Describes a s (finished n) s' → Describes b t (finished m) t'
    → take n s' ≡ take m t' → a ≡ b
texts_apart {a} {b} wa wb da db e = same_answer a b wa wb (sym (told da) ∙ e ∙ told db)
