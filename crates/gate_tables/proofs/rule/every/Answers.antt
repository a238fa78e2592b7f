-- `gate_tables::rule::every` meets its contract. Assumes nothing.
use Rattle.std.proofs.Common.{refl, rules, nat_eq}
use Rattle.std.proofs.lemmas.List.Recursion.{and_is}
use Rattle.level.specs.Gate.{every}
use Rattle.gate_tables.proofs.rule.every.Goals as goal

pub returns : goal.returns
returns c = and_is (every c.args.v) (λ a. nat_eq a c.args.v) refl (λ _ _. refl) c.args.inputs.now 0 c.all.result (search rules) (search rules)
