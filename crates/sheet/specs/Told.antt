-- What the code's results tell: a refusal as its row of the table, a call that counts, a check, and what reading gives by the rows it met.
use Rattle.std.specs.Prelude.{List, ◌≡◌, ℕ, Result, Ok, Err}
use Rattle.sheet.specs.declared.refusal.Refusal.{Refusal}
use Rattle.sheet.specs.declared.refusal.Refusal.TheVariants.{HorizonOutside, BytesEnd, CountOutside, NodeByte, Kind, Parameter, Wiring, Delay, NodeUse}
use Rattle.sheet.specs.declared.refusal.Refusal.TheVariants.{EventTick, EventNode, EventValue, EventOrder, NotBegun, Watched, BytesLeft, Loop}
use Rattle.sheet.specs.declared.refusal.Refusal.TheVariants.{ListingFull, TooManyPending, TextShort, KindNotInFirst, OutputShort, WidthOutside}
use Rattle.sheet.specs.declared.refusal.Refusal.TheVariants.{ReportShort, DrawnTooMany}
use Rattle.sheet.specs.Outcome.{Outcome, finished, refused}
use Rattle.sheet.specs.Refusal.{Row, first}

-- the paper's number, place and count for each case of the code's refusal
abbrev pub as_refused : Refusal → Outcome
as_refused HorizonOutside = refused 1 0 0
as_refused (BytesEnd place) = refused 2 place 0
as_refused (CountOutside place) = refused 3 place 0
as_refused (NodeByte place) = refused 4 place 0
as_refused (Kind place) = refused 5 place 0
as_refused (Parameter place) = refused 6 place 0
as_refused (Wiring place) = refused 7 place 0
as_refused (Delay place) = refused 8 place 0
as_refused (NodeUse node) = refused 10 node 0
as_refused (EventTick place) = refused 11 place 0
as_refused (EventNode place) = refused 12 place 0
as_refused (EventValue place) = refused 13 place 0
as_refused (EventOrder place) = refused 14 place 0
as_refused (NotBegun node) = refused 15 node 0
as_refused (Watched place) = refused 16 place 0
as_refused (BytesLeft place) = refused 17 place 0
as_refused (Loop node) = refused 18 node 0
as_refused (ListingFull tick records) = refused 19 tick records
as_refused (TooManyPending tick records) = refused 20 tick records
as_refused (TextShort needed) = refused 21 needed 0
as_refused (KindNotInFirst place) = refused 22 place 0
as_refused (OutputShort needed) = refused 23 needed 0
as_refused WidthOutside = refused 24 0 0
as_refused (ReportShort pulses records) = refused 25 pulses records
as_refused DrawnTooMany = refused 26 0 0

-- of a call that counts: its answer
abbrev pub answer_in : Result ℕ Refusal → Outcome
answer_in (Ok count) = finished count
answer_in (Err refusal) = as_refused refusal

-- of a check: the refusal that is met, and without one a finished call with count 0
abbrev pub refusal_in : {A : Type 0} → Result A Refusal → Outcome
refusal_in (Ok a) = finished 0
refusal_in (Err refusal) = as_refused refusal

-- of reading what has rows: the first of them that is met is refused; without one, a fact holds of what is read
abbrev pub Told : {A : Type 0} → List Row → (A → Type 0) → Result A Refusal → Type 0
Told rows Known (Ok a) = (first rows ≡ finished 0) × Known a
Told rows Known (Err refusal) = first rows ≡ as_refused refusal
