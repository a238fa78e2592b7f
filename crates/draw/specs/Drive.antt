-- Document 02, W-210: the drive that is drawn for a list of inputs from a seed and a count n.
use Rattle.std.specs.Prelude.{ℕ, zero, suc, ◌+◌, ◌*◌, ◌%◌, List, ◌++◌, length, slice_index}
use Rattle.sheet.specs.declared.Event.{Event}
use Rattle.sheet.specs.Enumerate.{chosen, listed}
use Rattle.sheet.specs.Sheet.{Sheet, node_count}
use Rattle.sheet.specs.Wiring.{is_input}
use Rattle.format.specs.Encode.{word_bytes, event_bytes, all_bytes}
use Rattle.draw.specs.Draw.{draw}

-- the inputs of a sheet, in rising order
abbrev pub sheet_inputs : Sheet → List ℕ
sheet_inputs S = chosen (node_count S) (is_input S) (λ v. v)

-- each input in rising order gets an event at tick 0 with value draw modulo 2
abbrev pub first_event : List ℕ → ℕ → ℕ → Event
first_event inputs seed i = record { tick = 0; node = slice_index inputs i; value = draw seed i % 2 }

-- Then three draws for each event: the first of them for the tick, the next for the input, the last for the value.
abbrev pub tick_draw : List ℕ → ℕ → ℕ
tick_draw inputs k = length inputs + 3 * k

abbrev pub input_draw : List ℕ → ℕ → ℕ
input_draw inputs k = tick_draw inputs k + 1

abbrev pub value_draw : List ℕ → ℕ → ℕ
value_draw inputs k = tick_draw inputs k + 2

-- the tick before event k, from 0 on: it grows by 1 plus draw modulo 64
unfoldable pub tick_before : List ℕ → ℕ → ℕ → ℕ
tick_before inputs seed zero = 0
tick_before inputs seed (suc k) = tick_before inputs seed k + (1 + draw seed (tick_draw inputs k) % 64)

-- the input is the one at position draw modulo the count of inputs, counted from 0, and the value is draw modulo 2
abbrev pub later_event : List ℕ → ℕ → ℕ → Event
later_event inputs seed k =
    record {
      tick = tick_before inputs seed (suc k);
      node = slice_index inputs (draw seed (input_draw inputs k) % length inputs);
      value = draw seed (value_draw inputs k) % 2;
    }

unfoldable pub drawn_drive : List ℕ → ℕ → ℕ → List Event
drawn_drive inputs seed n = listed (length inputs) (first_event inputs seed) ++ listed n (later_event inputs seed)

-- a drive's section: the count of its events, and their records
abbrev pub drive_bytes : List Event → List ℕ
drive_bytes drive = word_bytes (length drive) ++ all_bytes event_bytes drive
