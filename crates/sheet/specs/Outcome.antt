-- Document 01, "Where each refusal is met": an answer is either a finished run with its count, or a refusal with its number,
-- place and count of records written.
use Rattle.std.specs.Prelude.{List, [], ◌∷◌, ℕ, eqb, if◌then◌else◌}
use Rattle.sheet.specs.declared.refusal.Answer.{Answer}
use Rattle.sheet.specs.declared.refusal.Answer.TheVariants.{Ran, Refused}

pub data Outcome : Type 0 where
  finished : ℕ → Outcome
  refused : ℕ → ℕ → ℕ → Outcome

-- a refusal stands; a finished call gives way to what follows
abbrev pub or_else : Outcome → Outcome → Outcome
or_else (finished count) o = o
or_else (refused number place count) o = refused number place count

-- the paper's number and values for each case of the code's answer
abbrev pub outcome_of : Answer → Outcome
outcome_of (Ran count) = finished count
outcome_of (Refused number place count) = refused number place count

-- the three numbers that a caller in another language gets: number (0 for a finished call), place, count
abbrev pub numbers : Outcome → List ℕ
numbers (finished count) = 0 ∷ 0 ∷ count ∷ []
numbers (refused number place count) = number ∷ place ∷ count ∷ []

-- the answer that three numbers from such a caller stand for: number 0 is a finished call, and its place is not looked at
abbrev pub from_numbers : ℕ → ℕ → ℕ → Outcome
from_numbers number place count = if eqb number 0 then finished count else refused number place count
