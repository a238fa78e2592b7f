-- `tick::zero_delay::settle_one` meets its contract: what the module comes to, holding what it gave last, is given. Assumes nothing.
use mathlib.Core.Path.{sym, ◌∙◌}
use Rattle.sheet.proofs.Listed.{get_or-listed}
use Rattle.tick.specs.Tally.{given_at, given_in}
use Rattle.tick.proofs.zero_delay.settle_one.Goals as goal

pub returns : goal.returns
returns c =
    let a = c.args in
    let rows = a.network.rows.now in
    let p = a.present.now in
    let held = get_or-listed _ (given_at rows p.values p.kept) a.k 0 c.requires.0 ∙ sym c.given-held.ensures.0 in
    (rw (c.give.ensures.0, c.comes_to-value.ensures.0 (given_in rows p.values p.kept) held), c.give.ensures.1)
