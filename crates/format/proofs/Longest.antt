-- A sheet with as many nodes, modules, events and watched nodes as the counts' ranges allow is accepted, strictly too. Nothing of it is computed:
-- it is given by what stands at each number. Assumes nothing.
use lib.Dec.{lit<, lit≤}
use lib.ListN.{length, drop}
use mathlib.Core.List.Memᴰ
use mathlib.Core.List.{List, [], ◌∷◌, Memᴰ}
use mathlib.Core.Logic.{⊎_elim}
use mathlib.Core.Path.{◌≡◌, refl, sym, ap, ◌∙◌, subst₂}
use native.Mathlib.Omega.{arith}
use Prim.Native.Nat.{ℕ, zero, suc, ◌+◌, ◌*◌, ◌^◌, ◌<◌, ◌≤◌, zero-le}
use Rattle.sheet.specs.declared.Edition.{Edition}
use Rattle.sheet.specs.declared.Event.{Event}
use Rattle.sheet.specs.declared.Module.{Module}
use Rattle.sheet.specs.Enumerate.{listed}
use Rattle.sheet.specs.Limits.{most_nodes, most_modules, most_events, most_watched, input_byte, last_value}
use Rattle.sheet.specs.Loop.{Chain, link, more, Feeds}
use Rattle.sheet.specs.Outcome.{finished}
use Rattle.sheet.specs.Refusal.{key, checked_strictly}
use Rattle.sheet.specs.Sheet.{Sheet, node_count, node_byte, no_module, module_count, module_of, no_event, event_count, event_of, watched_count, watched_node}
use Rattle.sheet.proofs.Listed.{length-listed, get_or-listed, listed_all}
use Rattle.format.specs.Accepted.{Driven, Input, SoundModule, Accepted, Known, the_first, the_second, HasKinds, DrivenAtStart, StrictlyAcceptedIn}
use Rattle.format.specs.Encode.{room_for_inputs, encode, Bytes, Encodable, OneByteEach}
use Rattle.format.proofs.Accepted.{strictly_conversely}
use Rattle.format.proofs.EncodeBytes.{encode_bytes}
use Rattle.format.proofs.EncodePlaces.{counts_nodes, counts_modules, counts_events, counts_watched, encode_whole, read_encode}

-- node 0 is an input, and every other node begins at 0
abbrev byte_of : ℕ → ℕ
byte_of zero = input_byte
byte_of (suc v) = 0

-- modules 0 and 1 drive node 1, and every other module the node of its own number
abbrev target : ℕ → ℕ
target zero = 1
target (suc m) = suc m

-- all are buffers of node 0 with delay 1
abbrev buffer : ℕ → Module
buffer m = record { kind = 1; parameter = 0; output = target m; first = 0; second = 0; third = 0; delay = 1 }

-- an event at each tick from 0 on
abbrev event : ℕ → Event
event t = record { tick = t; node = 0; value = 0 }

abbrev full : Sheet
full =
    record {
      nodes = listed most_nodes byte_of;
      modules = listed most_modules buffer;
      drive = listed most_events event;
      watched = listed most_watched (λ v. v);
    }

-- how much there is of each
nodes : node_count full ≡ 256
nodes = length-listed most_nodes byte_of

modules : module_count full ≡ 256
modules = length-listed most_modules buffer

events : event_count full ≡ 1024
events = length-listed most_events event

watched : watched_count full ≡ 256
watched = length-listed most_watched (λ v. v)

-- and what stands at a number
byte_at : (v : ℕ) → v < node_count full → node_byte full v ≡ byte_of v
byte_at v h = get_or-listed most_nodes byte_of v 0 (rw nodes at h)

module_at : (m : ℕ) → m < module_count full → module_of full m ≡ buffer m
module_at m h = get_or-listed most_modules buffer m no_module (rw modules at h)

event_at : (k : ℕ) → k < event_count full → event_of full k ≡ event k
event_at k h = get_or-listed most_events event k no_event (rw events at h)

watched_at : (k : ℕ) → k < watched_count full → watched_node full k ≡ k
watched_at k h = get_or-listed most_watched (λ v. v) k 0 (rw watched at h)

byte_small : (v : ℕ) → byte_of v ≤ input_byte
byte_small zero = lit≤ tt
byte_small (suc v) = zero-le

target_node : (m : ℕ) → m < 256 → target m < 256
target_node zero h = lit< tt
target_node (suc m) h = h

not_node_0 : (m : ℕ) → target m ≡ 0 → ⊥
not_node_0 zero e = omega arith
not_node_0 (suc m) e = omega arith

sound : (m : ℕ) → m < 256 → SoundModule 256 (buffer m)
sound m h =
    record {
      kind = lit≤ tt;
      parameter = zero-le;
      output = target_node m h;
      used = λ v u. omega (arith, Memᴰ.eq_of_singleton u);
      unused = λ v u. ⊎_elim (λ e. e) Memᴰ.eq_of_singleton (Memᴰ.cases_cons u);
      delay = lit≤ tt;
    }

-- node 0 is the one input
undriven : Driven full 0 → ⊥
undriven d = not_node_0 d.driver (sym (ap (λ m. m.output) (module_at d.driver d.listed)) ∙ d.output)

input : Input full 0
input = record { node = rw nodes (lit< tt); undriven = undriven }

only_input : (v : ℕ) → Input full v → v ≡ 0
only_input zero i = refl
only_input (suc v) i =
    let h : suc v < module_count full = omega (arith, i.node, nodes, modules) in
    absurd (i.undriven (record { driver = suc v; listed = h; output = ap (λ m. m.output) (module_at (suc v) h) }))

driven_byte : (v : ℕ) → v < node_count full → Driven full v → node_byte full v ≤ last_value
driven_byte zero h d = absurd (undriven d)
driven_byte (suc v) h d = rw (byte_at (suc v) h) zero-le

-- no module has delay 0
no_feed : {a b : ℕ} → Feeds full a b → ⊥
no_feed {a} f = omega (arith, ap (λ m. m.delay) (module_at a f.from), f.from_at_once)

no_chain : {a b : ℕ} → Chain full a b → ⊥
no_chain (link f) = no_feed f
no_chain (more f c) = no_feed f

accepted : Accepted full
accepted =
    record {
      some_node = rw nodes (lit≤ tt);
      nodes = rw nodes (lit≤ tt);
      modules = rw modules (lit≤ tt);
      events = rw events (lit≤ tt);
      watched = rw watched (lit≤ tt);
      node_bytes = λ v h. rw (byte_at v h) (byte_small v);
      sound_modules = λ m h. subst₂ SoundModule (sym nodes) (sym (module_at m h)) (sound m (rw modules at h));
      sound_events = λ k h. rw (event_at k h) (record { tick = omega (arith, h, events); node = input; value = zero-le });
      watched_nodes = λ k h. rw (watched_at k h) (omega (arith, h, watched, nodes));
      initial_values = driven_byte;
      inputs = λ v i. byte_at v i.node ∙ ap byte_of (only_input v i);
      drive_rises = λ a b l h. subst₂ (λ x y. key x < key y) (sym (event_at a (omega (arith, l, h)))) (sym (event_at b h)) (omega (arith, l));
      watched_rise = λ a b l h. subst₂ ◌<◌ (sym (watched_at a (omega (arith, l, h)))) (sym (watched_at b h)) l;
      no_loop = λ v o. no_chain o.closed;
    }

started : (v : ℕ) → Input full v → DrivenAtStart full v
started v i =
    let h : 0 < event_count full = rw events (lit< tt) in
    record { event = 0; listed = h; tick = ap (λ e. e.tick) (event_at 0 h); node = ap (λ e. e.node) (event_at 0 h) ∙ sym (only_input v i) }

-- buffers are of every edition, and have no input that a record lacks room for
kind_there : {E : Edition} → Known E → 1 ≤ E.greatest
kind_there the_first = lit≤ tt
kind_there the_second = lit≤ tt

room : {E : Edition} → Known E → (v : ℕ) → Memᴰ v (drop (room_for_inputs E) (0 ∷ 0 ∷ 0 ∷ [])) → v ≡ 0
room the_first v i = Memᴰ.eq_of_singleton i
room the_second v i = absurd (Memᴰ.not-nil i)

one_byte_each : OneByteEach full
one_byte_each =
    record {
      nodes = listed_all (λ b. b < 256) most_nodes byte_of (λ v h. omega (arith, byte_small v));
      modules =
          listed_all (λ m. (m.kind < 256) × (m.parameter < 256) × (m.output < 256) × (m.first < 256) × (m.second < 256) × (m.third < 256)) most_modules buffer
          (λ m h. (lit< tt, lit< tt, target_node m h, lit< tt, lit< tt, lit< tt));
      drive = listed_all (λ e. (e.node < 256) × (e.value < 256)) most_events event (λ t h. (lit< tt, lit< tt));
      watched = listed_all (λ b. b < 256) most_watched (λ v. v) (λ v h. h);
    }

module _ {E : Edition} (known : Known E) where
  fits : Encodable E full
  fits =
      record {
        nodes = rw nodes (lit< tt);
        modules = rw modules (lit< tt);
        drive = rw events (lit< tt);
        watched = rw watched (lit< tt);
        delays = listed_all (λ m. m.delay < 65536) most_modules buffer (λ m h. lit< tt);
        ticks = listed_all (λ e. e.tick < 2 ^ 32) most_events event (λ t h. omega arith);
        room = listed_all (λ m. (v : ℕ) → Memᴰ v (drop (room_for_inputs E) (m.first ∷ m.second ∷ m.third ∷ [])) → v ≡ 0) most_modules buffer (λ m h. room known);
      }

  kinds : HasKinds E full
  kinds m h = rw (module_at m h) (kind_there known)

  strictly : StrictlyAcceptedIn E (encode E full)
  strictly =
      let back = read_encode known full fits in
      record { accepted = record { sheet = rw back accepted; kinds = rw back kinds; whole = encode_whole known full fits }; driven_from_start = rw back started }

  long : length (encode E full) ≡ 6664 + E.size * 256
  long =
      encode_whole known full fits
      ∙ omega (arith, counts_nodes known full fits ∙ nodes, ap (λ n. E.size * n) (counts_modules known full fits ∙ modules), counts_events known full fits ∙ events, counts_watched known full fits ∙ watched)

  pub full_accepted : (s : List ℕ) × Bytes s × (length s ≡ 6664 + E.size * 256) × (checked_strictly E s ≡ finished 0)
  full_accepted = (encode E full, encode_bytes E full one_byte_each, long, strictly_conversely E known (encode E full) strictly)
