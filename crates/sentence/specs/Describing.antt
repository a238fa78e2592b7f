-- Document 02, W-201: what describing an answer in a lent text answers, and what the text then holds.
use Rattle.std.specs.Prelude.{List, ◌++◌, ◌≡◌, ℕ, ltb, length, drop, if◌then◌else◌}
use Rattle.sheet.specs.Outcome.{Outcome, finished, refused}
use Rattle.sentence.specs.Sentence.{sentence}

-- 21 the text buffer is shorter than the sentence
abbrev pub text_short : ℕ
text_short = 21

-- its place is the length needed; a success answers the sentence's length
unfoldable pub described : Outcome → ℕ → Outcome
described o bytes =
    if ltb bytes (length (sentence o)) then refused text_short (length (sentence o)) 0 else finished (length (sentence o))

-- the buffer is untouched where it is too short; otherwise bytes past the sentence are
unfoldable pub described_text : Outcome → List ℕ → List ℕ
described_text o text = if ltb (length text) (length (sentence o)) then text else sentence o ++ drop (length (sentence o)) text

-- the answer to, and the text after, describing an answer
pub record Describes (o : Outcome) (text : List ℕ) (answer : Outcome) (after : List ℕ) : Type 0 where
  pub answered : answer ≡ described o (length text)
  pub left : after ≡ described_text o text
