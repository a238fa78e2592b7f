-- What is known of a sheet once it is read.
use Rattle.std.specs.Prelude.{List, ℕ, ◌≤◌}
use Rattle.sheet.specs.declared.contents.Contents.{Contents}
use Rattle.sheet.specs.declared.Edition.{Edition}
use Rattle.sheet.specs.Contents.{Holds}
use Rattle.sheet.specs.Layout.{sheet_of}
use Rattle.sheet.specs.Limits.{most_nodes, most_modules, most_events, most_watched}
use Rattle.sheet.specs.Sheet.{Sheet, node_count, module_count, event_count, watched_count}

-- the counts of a sheet are in their ranges
pub record InRange (S : Sheet) : Type 0 where
  pub nodes : node_count S ≤ most_nodes
  pub modules : module_count S ≤ most_modules
  pub events : event_count S ≤ most_events
  pub watched : watched_count S ≤ most_watched

-- what the sheet in the bytes holds is known, and its counts are in their ranges
pub record SheetHeld (e : Edition) (s : List ℕ) (c : Contents) : Type 0 where
  pub held : Holds (sheet_of e s) c
  pub in_range : InRange (sheet_of e s)
