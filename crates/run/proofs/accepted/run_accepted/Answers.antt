-- All is filled, and then the ticks begin. Assumes nothing.
use Rattle.std.proofs.Common.{◌≤◌, length, rules, arith, refl, sym, ap, ◌∙◌}
use Rattle.sheet.specs.Contents.{held_sheet}
use Rattle.model.specs.State.{delayed_below}
use Rattle.tick.proofs.Tally.{tallied}
use Rattle.load.proofs.Begun.{zero_levels, known_modules, driving}
use Rattle.run.proofs.Held.{few_modules, rows_counted, driven_node, begun}
use Rattle.run.proofs.accepted.run_accepted.Goals as goal

pub slice_bounds-rows-end-2 : goal.slice_bounds-rows-end-2
slice_bounds-rows-end-2 g c =
    let few : length c.args.modules.now ≤ 256 = rw c.requires.2 (few_modules c.requires.1) in
    search (rules, few)

pub load_modules-shared-requires : goal.load_modules-shared-requires
load_modules-shared-requires g c =
    let few : length c.args.modules.now ≤ 256 = rw c.requires.2 (few_modules c.requires.1) in
    search (rules, few)

pub load_values-requires : goal.load_values-requires
unfolding held_sheet
load_values-requires g c =
    let acc = c.requires.1 in
    rw (c.listed-2.ensures, ap (λ s. s.nodes) c.requires.0) (acc.nodes, acc.node_bytes, zero_levels)

pub invariant_of-network : goal.invariant_of-network
unfolding held_sheet
invariant_of-network g c =
    let acc = c.requires.1 in
    let put = c.load_modules-shared.ensures.0 ∙ c.requires.2 in
    let modules = ap length (c.listed.ensures ∙ ap (λ s. s.modules) c.requires.0) in
    record {
      gates_kept = c.tables-gates.ensures;
      few = omega (arith, rows_counted acc _ put, acc.modules);
      known = rw put (known_modules g.sheet acc);
      starts_kept = c.load_modules-shared.ensures.3;
      few_delayed = omega (arith, rows_counted acc _ put, modules, c.count_delayed-delayed.ensures.1);
      driving = rw (c.listed-3.ensures, ap (λ s. s.drive) c.requires.0) (driving g.sheet acc);
      few_ticks = c.requires.4;
    }

-- all as it stands when the ticks begin
pub ticks-requires : goal.ticks-requires
unfolding held_sheet
ticks-requires g c =
    let acc = c.requires.1 in
    let loaded = c.load_modules-shared.ensures in
    let put = loaded.0 ∙ c.requires.2 in
    let modules = c.listed.ensures ∙ ap (λ s. s.modules) c.requires.0 in
    let nodes = c.listed-2.ensures ∙ ap (λ s. s.nodes) c.requires.0 in
    let values = c.load_values.ensures in
    let last = c.load_last.ensures in
    record {
      accepted = acc;
      some_tick = c.requires.3;
      modules = put;
      delayed = c.count_delayed-delayed.ensures.0 g.sheet (sym modules) ∙ ap (λ ms. delayed_below g.sheet (length ms)) modules;
      drive = c.listed-3.ensures ∙ ap (λ s. s.drive) c.requires.0;
      watched_there = c.listed-4.ensures ∙ ap (λ s. s.watched) c.requires.0;
      begun = begun acc _ put (rw nodes at values.0) values.1 (rw c.requires.2 at last.0) last.1 loaded.3 c.new-listing.ensures.none_shown c.empty.ensures;
      first_event = refl;
      tallied = tallied _ (omega (arith, rows_counted acc _ put, acc.modules)) loaded.1 loaded.2 c.load_counts.ensures.1 (driven_node acc _ put) c.load_counts.ensures.0;
      none_written = c.new-listing.ensures.none_written;
      none_placed = c.new-listing.ensures.none_placed;
    }
