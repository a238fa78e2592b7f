-- The sheet that stands in bytes has what the bytes have: its counts, and at each number below them the record that stands there. Assumes nothing.
use mathlib.Core.List.{List}
use mathlib.Core.Path.{◌≡◌}
use Prim.Native.Nat.{ℕ, ◌<◌}
use Rattle.sheet.specs.declared.Edition.{Edition}
use Rattle.sheet.specs.Sheet.{node_count, node_byte, no_module, module_count, module_of, no_event, event_count, event_of, watched_count, watched_node}
use Rattle.sheet.specs.Layout.{nodes_counted, node_at, modules_counted, module_at, events_counted, event_at, watched_counted, watched_at, sheet_of}
use Rattle.sheet.proofs.Listed.{length-listed, get_or-listed}

module _ (e : Edition) (s : List ℕ) where
  pub counts_nodes : node_count (sheet_of e s) ≡ nodes_counted s
  unfolding sheet_of
  counts_nodes = length-listed (nodes_counted s) (node_at s)

  pub node_byte_lem : (v : ℕ) → v < nodes_counted s → node_byte (sheet_of e s) v ≡ node_at s v
  unfolding sheet_of
  node_byte_lem v h = get_or-listed (nodes_counted s) (node_at s) v 0 h

  pub counts_modules : module_count (sheet_of e s) ≡ modules_counted s
  unfolding sheet_of
  counts_modules = length-listed (modules_counted s) (module_at e s)

  pub module_of_lem : (m : ℕ) → m < modules_counted s → module_of (sheet_of e s) m ≡ module_at e s m
  unfolding sheet_of
  module_of_lem m h = get_or-listed (modules_counted s) (module_at e s) m no_module h

  pub counts_events : event_count (sheet_of e s) ≡ events_counted e s
  unfolding sheet_of
  counts_events = length-listed (events_counted e s) (event_at e s)

  pub event_of_lem : (k : ℕ) → k < events_counted e s → event_of (sheet_of e s) k ≡ event_at e s k
  unfolding sheet_of
  event_of_lem k h = get_or-listed (events_counted e s) (event_at e s) k no_event h

  pub counts_watched : watched_count (sheet_of e s) ≡ watched_counted e s
  unfolding sheet_of
  counts_watched = length-listed (watched_counted e s) (watched_at e s)

  pub watched_node_lem : (k : ℕ) → k < watched_counted e s → watched_node (sheet_of e s) k ≡ watched_at e s k
  unfolding sheet_of
  watched_node_lem k h = get_or-listed (watched_counted e s) (watched_at e s) k 0 h
