-- Document 02, W-201: each refusal's phrase, a fixed text of its own that says what is wrong, and what its place counts.
use Rattle.std.specs.Prelude.{Bool, ◌&&◌, List, [], ◌∷◌, ℕ, ◌-◌, leb, ltb, length, get_or}
use Prim.Native.String.{String}
use Rattle.reason.specs.declared.Sort.{Sort}
use Rattle.reason.specs.declared.Sort.TheVariants.{Byte, Node, Tick, Length, Pulses, Bare}

-- The sort of a place (document 02's term) is what it counts, as its row names it: a byte of the sheet, a node, a tick, the length
-- that is needed, the pulses to report; a bare 0 counts nothing. How the sort stands before the place:
abbrev pub before : Sort → String
before Byte = ", at the sheet's byte "
before Node = ", at node "
before Tick = ", at tick "
before Length = ", length needed "
before Pulses = ", pulses to report "
before Bare = ", place "

-- what is wrong, and the sort of the place
pub record Phrase : Type 0 where
  pub wrong : String
  pub sort : Sort

infix 20 ◌by◌
abbrev pub ◌by◌ : String → Sort → Phrase
wrong by sort = record { wrong = wrong; sort = sort }

-- refusals 1 to 26, in order
abbrev pub phrases : List Phrase
phrases =
    ("the horizon is not from 1 to 1,000,000 ticks" by Bare)
    ∷ ("the sheet's bytes end inside a count or a record" by Byte)
    ∷ ("a count is out of range: nodes 1 to 256, modules 0 to 256, drive events 0 to 1,024, watched nodes 0 to 256" by Byte)
    ∷ ("a node's byte is neither an initial value, 0 to 3, nor 4 for an input" by Byte)
    ∷ ("a module's kind is not one that this edition of the sheet has" by Byte)
    ∷ ("a module's parameter is not allowed: a constant takes 0 to 3, a memory 0 to 15, any other kind 0" by Byte)
    ∷ ("a module's output or used input is no node, or an input that its kind lacks is not 0" by Byte)
    ∷ ("a module's delay is above 10,000 ticks" by Byte)
    ∷ ("a module drives a node that an earlier module drives already" by Byte)
    ∷ ("a driven node is marked as an input, or an undriven node has an initial value" by Node)
    ∷ ("a drive event's tick is above 999,999" by Byte)
    ∷ ("a drive event's node is not an input of the sheet" by Byte)
    ∷ ("a drive event's value is above 3" by Byte)
    ∷ ("a drive event does not come after the one before it, by tick and then by node" by Byte)
    ∷ ("an input has no drive event at tick 0" by Node)
    ∷ ("a watched node is no node of the sheet, or does not come after the one before it" by Byte)
    ∷ ("bytes are left over after the sheet's end" by Byte)
    ∷ ("one or more modules of delay 0 form a closed chain" by Node)
    ∷ ("the listing has no room for all records of a tick" by Tick)
    ∷ ("more than 4,096 changes are pending after a tick" by Tick)
    ∷ ("the text buffer is shorter than the sentence" by Length)
    ∷ ("a module has a kind above 9, which the first edition of the sheet lacks" by Byte)
    ∷ ("the output buffer is shorter than the sheet to be written" by Length)
    ∷ ("the pulse width is not from 1 to 10,000 ticks" by Bare)
    ∷ ("the report buffer has no room for all pulses" by Pulses)
    ∷ ("the inputs and the events to draw are more than 1,024 together, or there is no input to draw events for" by Bare)
    ∷ []

-- how a number that no row has is said, before the number itself
abbrev pub unlisted : String
unlisted = "the reason is not listed, number "

abbrev pub is_listed : ℕ → Bool
is_listed number = ltb 0 number && leb number (length phrases)

-- the phrase of a number that is listed
abbrev pub phrase_of : ℕ → Phrase
phrase_of number = get_or phrases (number - 1) (unlisted by Bare)
