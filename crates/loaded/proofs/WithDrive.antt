-- A sheet with another drive: its nodes, modules and loops are the same, and it is accepted with a drive that is sound and rises. Assumes nothing.
use lib.ListN.{length, get_or}
use mathlib.Core.List.{List}
use Prim.Native.Nat.{ℕ, ◌<◌, ◌≤◌}
use Rattle.sheet.specs.declared.Event.{Event}
use Rattle.sheet.specs.Limits.{most_events}
use Rattle.sheet.specs.Loop.{Feeds, Chain, link, more}
use Rattle.sheet.specs.Refusal.{key}
use Rattle.sheet.specs.Sheet.{Sheet, no_event}
use Rattle.format.specs.Accepted.{Driven, Input, SoundEvent, Accepted}
use Rattle.loaded.specs.Loaded.{with_drive}

module _ (S : Sheet) (drive : List Event) where
  abbrev W : Sheet
  W = with_drive S drive

  driven_back : {v : ℕ} → Driven W v → Driven S v
  driven_back d = record { driver = d.driver; listed = d.listed; output = d.output }

  driven_there : {v : ℕ} → Driven S v → Driven W v
  driven_there d = record { driver = d.driver; listed = d.listed; output = d.output }

  pub input_back : {v : ℕ} → Input W v → Input S v
  input_back i = record { node = i.node; undriven = λ d. i.undriven (driven_there d) }

  pub input_there : {v : ℕ} → Input S v → Input W v
  input_there i = record { node = i.node; undriven = λ d. i.undriven (driven_back d) }

  feeds_back : {a b : ℕ} → Feeds W a b → Feeds S a b
  feeds_back f = record { from = f.from; to = f.to; from_at_once = f.from_at_once; to_at_once = f.to_at_once; node = f.node; used = f.used }

  chain_back : {a b : ℕ} → Chain W a b → Chain S a b
  chain_back (link f) = link (feeds_back f)
  chain_back (more f c) = more (feeds_back f) (chain_back c)

  event_there : (e : Event) → SoundEvent S e → SoundEvent W e
  event_there e h = record { tick = h.tick; node = input_there h.node; value = h.value }

  pub accepted_with : Accepted S → length drive ≤ most_events → ((k : ℕ) → k < length drive → SoundEvent S (get_or drive k no_event))
      → ((a b : ℕ) → a < b → b < length drive → key (get_or drive a no_event) < key (get_or drive b no_event)) → Accepted W
  accepted_with acc few sound rise =
      record {
        some_node = acc.some_node;
        nodes = acc.nodes;
        modules = acc.modules;
        events = few;
        watched = acc.watched;
        node_bytes = acc.node_bytes;
        sound_modules = acc.sound_modules;
        sound_events = λ k h. event_there _ (sound k h);
        watched_nodes = acc.watched_nodes;
        initial_values = λ v h d. acc.initial_values v h (driven_back d);
        inputs = λ v i. acc.inputs v (input_back i);
        drive_rises = rise;
        watched_rise = acc.watched_rise;
        no_loop = λ v o. acc.no_loop v (record { driver = o.driver; closed = chain_back o.closed; output = o.output });
      }
