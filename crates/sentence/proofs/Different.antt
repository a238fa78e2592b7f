-- Two different answers never give the same text. Assumes nothing.
use mathlib.Core.List.{List, [], ◌++◌, append_assoc, append-nil, append_cancel_left, head-eq_of_cons-eq}
use mathlib.Core.Path.{◌≡◌, sym, ap, ◌∙◌}
use Prim.Native.Nat.{ℕ, ◌^◌, ◌<◌}
use native.Mathlib.Omega.{arith}
use Rattle.sheet.specs.Outcome.{Outcome, finished, refused}
use Rattle.lent.specs.Decimal.{decimal}
use Rattle.lent.specs.Letters.{letters}
use Rattle.lent.proofs.ReadBack.{decimal_then}
use Rattle.reason.specs.Reason.{reason}
use Rattle.reason.proofs.SameNumber.{same_number}
use Rattle.sentence.specs.Sentence.{has_finished, is_refused, records_written, sentence, OfWords}

-- a refusal's text after what is wrong
abbrev ending : ℕ → ℕ → List ℕ
ending place count = decimal place ++ (letters records_written ++ decimal count)

refusal_text : (n p c : ℕ) → sentence (refused n p c) ≡ letters is_refused ++ (reason n ++ ending p c)
unfolding sentence
refusal_text n p c = simp append_assoc

same_count : {c d : ℕ} → c < 2 ^ 32 → d < 2 ^ 32 → decimal c ≡ decimal d → c ≡ d
same_count {c} {d} hc hd e = (decimal_then [] [] hc hd tt tt (append-nil (decimal c) ∙ e ∙ sym (append-nil (decimal d)))).0

same_ending : {p q c d : ℕ} → p < 2 ^ 32 → q < 2 ^ 32 → c < 2 ^ 32 → d < 2 ^ 32 → ending p c ≡ ending q d → (p ≡ q) × (c ≡ d)
unfolding letters
same_ending {p} {q} {c} {d} hp hq hc hd e =
    let written = letters records_written in
    let place = decimal_then (written ++ decimal c) (written ++ decimal d) hp hq (λ h k. omega arith) (λ h k. omega arith) e in
    (place.0, same_count hc hd (append_cancel_left written _ _ place.1))

pub same_answer : (a b : Outcome) → OfWords a → OfWords b → sentence a ≡ sentence b → a ≡ b
unfolding sentence letters
same_answer (finished c) (finished d) wa wb e = ap finished (same_count wa wb (append_cancel_left (letters has_finished) _ _ e))
same_answer (finished c) (refused m q d) wa wb e = absurd (omega (arith, head-eq_of_cons-eq e))
same_answer (refused n p c) (finished d) wa wb e = absurd (omega (arith, head-eq_of_cons-eq e))
same_answer (refused n p c) (refused m q d) wa wb e =
    let rest = append_cancel_left (letters is_refused) _ _ (sym (refusal_text n p c) ∙ e ∙ refusal_text m q d) in
    let number = same_number n m wa.0 wb.0 (ending p c) (ending q d) rest in
    let end = same_ending wa.1 wb.1 wa.2 wb.2 (append_cancel_left (reason m) _ _ (rw number at rest)) in
    rw (number, end.0, end.1)

pub different_texts : (a b : Outcome) → OfWords a → OfWords b → (a ≡ b → ⊥) → sentence a ≡ sentence b → ⊥
different_texts a b wa wb differ e = differ (same_answer a b wa wb e)
