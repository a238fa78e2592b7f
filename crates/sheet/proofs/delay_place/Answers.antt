-- `sheet::delay_place` meets its contract: after the third input, if the edition has one. Assumes nothing.
use native.Mathlib.Omega.{arith}
use Rattle.sheet.proofs.delay_place.Goals as goal

pub returns-then-has_third : goal.returns-then-has_third
returns-then-has_third c = (simp (← c.has_third.ensures, c.if-has_third.true), omega arith)

pub returns-else-has_third : goal.returns-else-has_third
returns-else-has_third c = (simp (← c.has_third.ensures, c.if-has_third.false), omega arith)
