-- A sheet whose four sections are read is held. Assumes nothing.
use mathlib.Core.List.{List}
use mathlib.Core.Path.{sym, ◌∙◌}
use Prim.Native.Nat.{ℕ}
use Rattle.sheet.specs.declared.contents.Contents.{Contents}
use Rattle.sheet.specs.declared.Edition.{Edition}
use Rattle.sheet.specs.Layout.{nodes_counted, node_at, modules_counted, module_at, events_counted, event_at, watched_counted, watched_at, sheet_of}
use Rattle.sheet.specs.Sections.{SectionRead}
use Rattle.sheet.specs.Sheet.{no_module, no_event}
use Rattle.sheet.proofs.Parts.{counts_nodes, counts_modules, counts_events, counts_watched}
use Rattle.reader.specs.Read.{SheetHeld}

pub sheet_held : (e : Edition) (s : List ℕ) (c : Contents) → SectionRead 0 (nodes_counted s) (node_at s) c.nodes → SectionRead no_module (modules_counted s) (module_at e s) c.modules
    → SectionRead no_event (events_counted e s) (event_at e s) c.drive → SectionRead 0 (watched_counted e s) (watched_at e s) c.watched → SheetHeld e s c
unfolding sheet_of
sheet_held e s c nodes modules drive watched =
    record {
      held =
          record {
            counts_nodes = nodes.counted ∙ sym (counts_nodes e s);
            counts_modules = modules.counted ∙ sym (counts_modules e s);
            counts_events = drive.counted ∙ sym (counts_events e s);
            counts_watched = watched.counted ∙ sym (counts_watched e s);
            nodes = nodes.held;
            modules = modules.held;
            drive = drive.held;
            watched = watched.held;
          };
      in_range =
          record {
            nodes = rw (counts_nodes e s, ← nodes.counted) c.nodes.few;
            modules = rw (counts_modules e s, ← modules.counted) c.modules.few;
            events = rw (counts_events e s, ← drive.counted) c.drive.few;
            watched = rw (counts_watched e s, ← watched.counted) c.watched.few;
          };
    }
