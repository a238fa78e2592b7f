-- Document 02, W-210: a draw adds 2654435769 to a 32-bit state, modulo 2 to the power 32; its result is the upper 16 bits exclusive-or the
-- lower 16.
use Rattle.std.specs.Prelude.{ℕ, zero, suc, ◌+◌, ◌/◌, ◌%◌, ◌^◌, bit_xor}

abbrev pub draw_step : ℕ
draw_step = 2654435769

-- the state that a draw leaves
abbrev pub advanced : ℕ → ℕ
advanced state = (state + draw_step) % 2 ^ 32

-- the result of the draw that has left a state
abbrev pub result_of : ℕ → ℕ
result_of state = bit_xor (state / 2 ^ 16) (state % 2 ^ 16)

-- the state after so many draws; it starts as the seed
unfoldable pub state_after : ℕ → ℕ → ℕ
state_after seed zero = seed
state_after seed (suc k) = advanced (state_after seed k)

-- the result of a draw by its number, counted from 0
abbrev pub draw : ℕ → ℕ → ℕ
draw seed k = result_of (state_after seed (suc k))
