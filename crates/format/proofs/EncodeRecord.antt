-- Modules and events: read from what they are written as, and written as what they are read from. Assumes nothing.
use mathlib.Core.List.{List, [], ◌∷◌, ◌++◌, Memᴰ}
use mathlib.Core.Path.{◌≡◌, refl, sym, ap}
use Prim.Native.Nat.{ℕ, ◌+◌, ◌<◌, ◌^◌}
use native.Mathlib.Nat.{add-zero, add_assoc}
use native.Mathlib.Omega.{arith}
use lib.ListN.{length, drop}
use Rattle.sheet.specs.declared.Module.{Module}
use Rattle.sheet.specs.declared.Event.{Event}
use Rattle.sheet.specs.Enumerate.{each}
use Rattle.sheet.specs.Bytes.{byte_at, word_at}
use Rattle.sheet.specs.declared.Edition.{Edition}
use Rattle.sheet.specs.Layout.{first_edition, second_edition, event_size, third_at, delay_place, module_record, event_record}
use Rattle.sheet.specs.Wiring.{inputs}
use Rattle.format.specs.Accepted.{Known, the_first, the_second}
use Rattle.format.specs.Encode.{word_bytes, long_bytes, room_for_inputs, module_bytes, event_bytes, Bytes}
use Rattle.format.proofs.EncodeSpan.{Stand, span, stand_halves, stand_at}
use Rattle.format.proofs.EncodeNumber.{word_read, long_read, word_written, long_written}

module _ (s : List ℕ) (p : ℕ) where
  -- a module, from the fields that stand in the same place in every edition, its third input and its delay
  module_fields : (E : Edition) (m : Module) → Stand s p (m.kind ∷ m.parameter ∷ m.output ∷ m.first ∷ m.second ∷ [])
      → third_at E s p ≡ m.third → word_at s (delay_place E p) ≡ m.delay → module_record E s p ≡ m
  unfolding each
  module_fields E m h third delay =
      λ i.
      record {
        kind = (rw add-zero at (ap (λ l. byte_at l 0) h)) i;
        parameter = byte_at (h i) 1;
        output = byte_at (h i) 2;
        first = byte_at (h i) 3;
        second = byte_at (h i) 4;
        third = third i;
        delay = delay i;
      }

  pub event_read : (e : Event) → e.tick < 2 ^ 32 → span s p event_size ≡ event_bytes e → event_record s p ≡ e
  unfolding each
  event_read e b h =
      λ i.
      record {
        tick = long_read s p e.tick b (stand_halves s p (long_bytes e.tick) (e.node ∷ e.value ∷ []) h).0 i;
        node = byte_at (h i) 4;
        value = byte_at (h i) 5;
      }

  module _ (bytes : Bytes s) where
    pub event_written : event_bytes (event_record s p) ≡ span s p event_size
    unfolding each
    event_written = ap (λ l. l ++ byte_at s (p + 4) ∷ byte_at s (p + 5) ∷ []) (long_written s p bytes)

-- in each edition
pub module_length : {E : Edition} → Known E → (m : Module) → length (module_bytes E m) ≡ E.size
module_length the_first m = refl
module_length the_second m = refl

pub module_read : {E : Edition} → Known E → (s : List ℕ) (p : ℕ) (m : Module) → m.delay < 65536 → ((v : ℕ) → Memᴰ v (drop (room_for_inputs E) (inputs m)) → v ≡ 0)
    → span s p E.size ≡ module_bytes E m → module_record E s p ≡ m
module_read the_first s p m b room h =
    let parts = stand_halves s p (m.kind ∷ m.parameter ∷ m.output ∷ m.first ∷ m.second ∷ []) (word_bytes m.delay) h in
    module_fields s p first_edition m parts.0 (sym (room m.third (Memᴰ.head refl))) (word_read s (p + 5) m.delay b parts.1)
module_read the_second s p m b room h =
    let parts = stand_halves s p (m.kind ∷ m.parameter ∷ m.output ∷ m.first ∷ m.second ∷ []) (m.third ∷ word_bytes m.delay) h in
    let rest = stand_halves s (p + 5) (m.third ∷ []) (word_bytes m.delay) parts.1 in
    module_fields s p second_edition m parts.0 (rw add-zero at (stand_at s (p + 5) (m.third ∷ []) 0 0 (omega arith) rest.0)) (word_read s (p + 6) m.delay b (rw add_assoc at rest.1))

pub module_written : {E : Edition} → Known E → (s : List ℕ) (p : ℕ) → Bytes s → module_bytes E (module_record E s p) ≡ span s p E.size
unfolding each
module_written the_first s p bytes = rw (word_written s (p + 5) bytes) (simp (add-zero, add_assoc))
module_written the_second s p bytes = rw (word_written s (p + 6) bytes) (simp (add-zero, add_assoc))
