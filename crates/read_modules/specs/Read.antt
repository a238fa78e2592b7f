-- What reading the modules' section gives where none of its rows is met: the modules are known, the nodes that they drive are flagged,
-- and the next section's place is known.
use Rattle.std.specs.Prelude.{List, ◌≡◌, ℕ, ◌≤◌}
use Rattle.sheet.specs.declared.Edition.{Edition}
use Rattle.sheet.specs.Flags.{Flags}
use Rattle.sheet.specs.Layout.{modules_counted, module_at, drive_place, sheet_of}
use Rattle.sheet.specs.Sections.{SectionRead}
use Rattle.sheet.specs.Sheet.{no_module}
use Rattle.sheet.specs.Wiring.{is_driven}
use Rattle.read_modules.specs.declared.section.ModulesRead.{ModulesRead}

pub record ModulesKnown (e : Edition) (s : List ℕ) (r : ModulesRead) : Type 0 where
  pub section : SectionRead no_module (modules_counted s) (module_at e s) r.modules
  pub driven : Flags r.driven (is_driven (sheet_of e s))
  pub end : (r.end ≡ drive_place e s) × (r.end ≤ 65600)
