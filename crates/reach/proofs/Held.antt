-- What is held of a sheet is a network of its modules and nodes. Assumes nothing.
use mathlib.Core.Path.{sym, ap, ◌∙◌}
use native.Mathlib.Omega.{arith}
use lib.ListN.{take}
use lib.Seq.{take_all}
use Rattle.sheet.specs.declared.contents.Contents.{Contents}
use Rattle.sheet.specs.Limits.{most_modules}
use Rattle.sheet.specs.Sheet.{Sheet, no_module}
use Rattle.sheet.specs.Contents.{Holds}
use Rattle.sheet.proofs.Held.{take-filled}
use Rattle.reach.specs.Links.{Network}

pub network_held : (S : Sheet) (c : Contents) → Holds S c → Network (take c.modules.count c.modules.records) c.nodes.count S
network_held S c h = record {
  modules =
      sym
      (ap (take most_modules) (ap (take c.modules.count) h.modules ∙ take-filled most_modules no_module S.modules c.modules.count h.counts_modules)
      ∙ take_all most_modules S.modules (omega (arith, h.counts_modules, c.modules.few)));
  nodes = omega (arith, h.counts_nodes, c.nodes.few);
}
