-- `tick::contribution::comes_to` meets its contract: what the module of its row comes to. Assumes nothing.
use mathlib.Core.Path.{◌≡◌, sym, subst}
use Rattle.level.specs.Table.{start_of}
use Rattle.tick.specs.declared.row.Row.{Row}
use Rattle.tick.specs.Rest.{Known}
use Rattle.tick.proofs.Rows.{row_read, known_at}
use Rattle.tick.proofs.contribution.comes_to.Goals as goal

pub rule-requires : goal.rule-requires
rule-requires c =
    let n = c.args.network in
    let p = c.requires in
    let read = sym (row_read n.rows.now c.args.k _ p.0) in (
      n.gates_kept,
      subst (λ (r : Row). Known r.module.kind r.module.parameter) read (known_at n.rows.now n.known c.args.k p.0),
      p.1,
      subst (λ (r : Row). r.start ≡ start_of r.module.kind) read (n.starts_kept c.args.k p.0),
    )
