-- The states that draws leave: the remainder of the seed and as many steps. Assumes nothing.
use Rattle.std.proofs.Common.{◌≡◌, ℕ, zero, suc, ◌+◌, ◌*◌, ◌/◌, ◌%◌, ◌^◌, ◌<◌, ap, ◌∙◌, arith}
use lib.Bits.{xor_lt}
use Rattle.draw.specs.Draw.{draw_step, advanced, state_after, draw}

module _ (seed : ℕ) where
  pub state_is : (k : ℕ) → state_after seed (suc k) ≡ (seed + suc k * draw_step) % 2 ^ 32
  unfolding state_after
  state_is zero = omega arith
  state_is (suc k) = ap advanced (state_is k) ∙ omega arith

  pub state_small : (k : ℕ) → state_after seed (suc k) < 2 ^ 32
  state_small k = omega (arith, state_is k)

  -- a result has 16 bits
  pub result_small : (k : ℕ) → draw seed k < 2 ^ 16
  result_small k = let s = state_after seed (suc k) in xor_lt 16 (s / 2 ^ 16) (s % 2 ^ 16) (omega (arith, state_small k)) (omega arith)
