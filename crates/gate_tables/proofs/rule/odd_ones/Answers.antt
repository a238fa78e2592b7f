-- `gate_tables::rule::odd_ones` meets its contract. Assumes nothing.
use Rattle.std.proofs.Common.{◌≡◌, rules, nat_eq}
use Rattle.std.specs.List.{count_by}
use Rattle.level.specs.Level.{high}
use Rattle.gate_tables.proofs.Passed.{odd_is}
use Rattle.gate_tables.proofs.rule.odd_ones.Goals as goal

pub returns : goal.returns
returns c =
    let ones : c.count.result ≡ count_by (λ a. nat_eq a high) c.args.inputs.now = search rules in
    rw ones (odd_is c.args.inputs.now)
