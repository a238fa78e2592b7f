-- `reach::mark_module` meets its contract: the links of the first, second and third input, each if it is used. Assumes nothing.
use Rattle.reach.proofs.Marks.{module_adds}
use Rattle.reach.proofs.mark_module.Goals as goal

pub returns : goal.returns
returns c =
    let m = c.args.m in
    module_adds m c.inputs-used.result (c.inputs-used.ensures m.parameter) c.mark.ensures c.mark-2.ensures c.mark-3.ensures
