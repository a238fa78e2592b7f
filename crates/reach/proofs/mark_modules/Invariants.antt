-- `reach::mark_modules`: the links of the modules passed are added. Assumes nothing.
use Rattle.reach.specs.Links.{links_below, Adds}
use Rattle.reach.proofs.mark_modules.Given as goal

abbrev pub invariant-loop-m : goal.invariant-loop-m
invariant-loop-m l = Adds l.initial.reach (links_below l.modules l.m-index) l.reach
