-- `sheet::third_at` meets its contract: the edition decides whether there is one. Assumes nothing.
use Rattle.sheet.proofs.third_at.Goals as goal

pub returns-then-has_third : goal.returns-then-has_third
returns-then-has_third c = simp (← c.has_third.ensures, c.if-has_third.true, c.byte.ensures)

pub returns-else-has_third : goal.returns-else-has_third
returns-else-has_third c = simp (← c.has_third.ensures, c.if-has_third.false)
