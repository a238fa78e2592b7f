-- Sentences of answers, as the fitter reads them.
use Rattle.std.specs.Prelude.{List, [], ◌∷◌}
use Prim.Native.String.{String}
use Rattle.sheet.specs.Outcome.{Outcome, finished, refused}

pub record Example : Type 0 where
  pub answer : Outcome
  pub reads : String

infix 20 ◌reads◌
abbrev pub ◌reads◌ : Outcome → String → Example
answer reads text = record { answer = answer; reads = text }

abbrev pub examples : List Example
examples =
    (finished 6 reads "finished, with a count of 6")
    ∷ (refused 1 0 0 reads "refused: the horizon is not from 1 to 1,000,000 ticks, place 0; records written: 0")
    ∷ (refused 8 6 0 reads "refused: a module's delay is above 10,000 ticks, at the sheet's byte 6; records written: 0")
    ∷ (refused 18 1 0 reads "refused: one or more modules of delay 0 form a closed chain, at node 1; records written: 0")
    ∷ (refused 19 11 5 reads "refused: the listing has no room for all records of a tick, at tick 11; records written: 5")
    ∷ (refused 21 27 0 reads "refused: the text buffer is shorter than the sentence, length needed 27; records written: 0")
    ∷ (refused 22 16 0 reads "refused: a module has a kind above 9, which the first edition of the sheet lacks, at the sheet's byte 16; records written: 0")
    ∷ (refused 23 32 0 reads "refused: the output buffer is shorter than the sheet to be written, length needed 32; records written: 0")
    ∷ (refused 24 0 0 reads "refused: the pulse width is not from 1 to 10,000 ticks, place 0; records written: 0")
    ∷ (refused 25 2 6 reads "refused: the report buffer has no room for all pulses, pulses to report 2; records written: 6")
    ∷ (refused 26 0 0 reads "refused: the inputs and the events to draw are more than 1,024 together, or there is no input to draw events for, place 0; records written: 0")
    ∷ (refused 0 7 6 reads "refused: the reason is not listed, number 0, place 7; records written: 6")
    ∷ (refused 77 4294967295 0 reads "refused: the reason is not listed, number 77, place 4294967295; records written: 0")
    ∷ []
