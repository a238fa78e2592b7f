-- `gate_tables::rule::some` meets its contract. Assumes nothing.
use Rattle.std.proofs.Common.{refl, rules, nat_eq}
use Rattle.std.proofs.lemmas.List.Recursion.{or_is}
use Rattle.level.specs.Gate.{some}
use Rattle.gate_tables.proofs.rule.some.Goals as goal

pub returns : goal.returns
returns c = or_is (some c.args.v) (λ a. nat_eq a c.args.v) refl (λ _ _. refl) c.args.inputs.now 0 c.any.result (search rules) (search rules)
