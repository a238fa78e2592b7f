-- What the code holds of a sheet: each section's records in an array of its greatest count, filled up with zeros, and the counts.
use Rattle.std.specs.Prelude.{List, ◌++◌, ◌≡◌, ℕ, ◌-◌, length, take, replicate}
use Rattle.sheet.specs.declared.contents.Contents.{Contents}
use Rattle.sheet.specs.Limits.{most_nodes, most_modules, most_events, most_watched}
use Rattle.sheet.specs.Sheet.{Sheet, no_module, node_count, module_count, no_event, event_count, watched_count}

-- a list filled up to a size
abbrev pub filled {ℓ} : {A : Type ℓ} → ℕ → A → List A → List A
filled size blank l = l ++ replicate (size - length l) blank

pub record Holds (S : Sheet) (c : Contents) : Type 0 where
  pub counts_nodes : c.nodes.count ≡ node_count S
  pub counts_modules : c.modules.count ≡ module_count S
  pub counts_events : c.drive.count ≡ event_count S
  pub counts_watched : c.watched.count ≡ watched_count S
  pub nodes : c.nodes.records ≡ filled most_nodes 0 S.nodes
  pub modules : c.modules.records ≡ filled most_modules no_module S.modules
  pub drive : c.drive.records ≡ filled most_events no_event S.drive
  pub watched : c.watched.records ≡ filled most_watched 0 S.watched

-- the sheet that is held, whatever stands past the counts
unfoldable pub held_sheet : Contents → Sheet
held_sheet c =
    record {
      nodes = take c.nodes.count c.nodes.records;
      modules = take c.modules.count c.modules.records;
      drive = take c.drive.count c.drive.records;
      watched = take c.watched.count c.watched.records;
    }
