-- `load::count_delayed` meets its contract: the count of those whose delay is not 0. Assumes nothing.
use Rattle.std.proofs.Common.{◌≡◌, ◌∙◌, arith, rules}
use Rattle.std.specs.List.{count_by}
use Rattle.std.proofs.lemmas.List.Sums.{count_by-le-length}
use Rattle.load.proofs.Loading.{delayed, all_counted}
use Rattle.load.proofs.count_delayed.Goals as goal

pub returns : goal.returns
returns c =
    let modules = c.args.modules.now in
    let e : c.count.result ≡ count_by delayed modules = search rules in
    (λ S same. e ∙ all_counted S modules same, omega (arith, e, count_by-le-length delayed modules))
