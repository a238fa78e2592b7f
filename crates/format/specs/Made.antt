-- Document 02, W-207 and W-208: what a call that makes bytes for a lent output answers, and what the output then holds. They are written whole or
-- not at all.
use Rattle.std.specs.Prelude.{List, ◌++◌, ◌≡◌, ℕ, ltb, length, drop, if◌then◌else◌}
use Rattle.sheet.specs.Outcome.{Outcome, finished, refused, or_else}

-- What is made: the bytes; the refusal of an output that is shorter, with its place and count; what a success answers.
pub record Made : Type 0 where
  pub bytes : List ℕ
  pub number : ℕ
  pub place : ℕ
  pub count : ℕ
  pub answer : ℕ

abbrev pub written_answer : Made → ℕ → Outcome
written_answer made lent = if ltb lent (length made.bytes) then refused made.number made.place made.count else finished made.answer

-- what is refused before it stands
abbrev pub made_answer : Outcome → Made → ℕ → Outcome
made_answer before made lent = or_else before (written_answer made lent)

-- A refusal writes nothing; otherwise bytes past those made are as they were.
abbrev pub output_after : Outcome → List ℕ → List ℕ → List ℕ
output_after (refused number place count) bytes output = output
output_after (finished count) bytes output = bytes ++ drop (length bytes) output

-- What making over an output answers and leaves, after what is refused before it.
pub record Makes (before : Outcome) (made : Made) (output : List ℕ) (answer : Outcome) (after : List ℕ) : Type 0 where
  pub answered : answer ≡ made_answer before made (length output)
  pub left : after ≡ output_after (made_answer before made (length output)) made.bytes output

-- 23 the output is shorter than the sheet
abbrev pub output_short : ℕ
output_short = 23

-- its place is the length needed; a success answers the count of bytes written
abbrev pub sheet_made : List ℕ → Made
sheet_made sheet = record { bytes = sheet; number = output_short; place = length sheet; count = 0; answer = length sheet }
