-- A sheet that is read and written again gives its bytes, as far as its sections go; and what is read from bytes fits the format. Assumes nothing.
use mathlib.Core.Bool.{Bool, true, false}
use mathlib.Core.List.Memᴰ
use mathlib.Core.List.{List, [], Memᴰ}
use mathlib.Core.Logic.{⊎_elim}
use mathlib.Core.Path.{◌≡◌, refl, sym, ap, ◌∙◌}
use Prim.Native.Nat.{ℕ, ◌+◌, ◌*◌, ◌<◌, ◌^◌}
use native.Mathlib.Omega.{arith}
use lib.ListN.{length, drop}
use Rattle.std.specs.Prelude.{if◌then◌else◌}
use Rattle.sheet.specs.Bytes.{byte_at}
use Rattle.sheet.specs.declared.Edition.{Edition}
use Rattle.sheet.specs.Layout.{count_size, event_size, nodes_counted, node_place, node_at, modules_place, modules_counted, module_place, has_third, delay_place, module_record, module_at, drive_place, events_counted, event_place, event_at, watched_place, watched_counted, watch_place, watched_at, sheet_end, sheet_of}
use Rattle.sheet.specs.Wiring.{inputs}
use Rattle.format.specs.Accepted.{Known, the_first, the_second, AcceptedIn}
use Rattle.format.specs.Encode.{room_for_inputs, module_bytes, event_bytes, encode, Bytes, Encodable, OneByteEach}
use Rattle.sheet.proofs.Listed.{length-listed, listed_all}
use Rattle.format.proofs.EncodeSpan.{span, span_none, span_whole, records_written}
use Rattle.format.proofs.EncodeNumber.{byte_bound, word_bound, long_bound}
use Rattle.format.proofs.EncodeRecord.{module_written, event_written}
use Rattle.format.proofs.EncodeSection.{nodes_bytes, modules_bytes, drive_bytes, section_written}

-- an input for which a record has no room is read as 0
no_room : {E : Edition} → Known E → (s : List ℕ) (p v : ℕ) → Memᴰ v (drop (room_for_inputs E) (inputs (module_record E s p))) → v ≡ 0
no_room the_first s p v i = ⊎_elim (λ e. e) (λ m. absurd (Memᴰ.not-nil m)) (Memᴰ.cases_cons i)
no_room the_second s p v i = absurd (Memᴰ.not-nil i)

module _ {E : Edition} (known : Known E) (s : List ℕ) (bytes : Bytes s) where
  nodes_written : nodes_bytes (sheet_of E s) ≡ span s 0 (modules_place s)
  unfolding sheet_of
  nodes_written = section_written s bytes [] _ _ 0 (nodes_counted s) (span_none s 0) (length-listed _ _) refl

  modules_written : modules_bytes E (sheet_of E s) ≡ span s 0 (drive_place E s)
  unfolding sheet_of
  modules_written =
      section_written s bytes _ _ _ (modules_place s) (E.size * modules_counted s) nodes_written (length-listed _ _)
      (records_written s E.size (module_bytes E) (modules_place s + count_size) (module_at E s) (λ m. module_written known s (module_place E s m) bytes) _)

  drive_written : drive_bytes E (sheet_of E s) ≡ span s 0 (watched_place E s)
  unfolding sheet_of
  drive_written =
      section_written s bytes _ _ _ (drive_place E s) (event_size * events_counted E s) modules_written (length-listed _ _)
      (records_written s event_size event_bytes (drive_place E s + count_size) (event_at E s) (λ e. event_written s (event_place E s e) bytes) _)

  -- of any bytes: where they end too early, 0 is read and written
  pub encode_span : encode E (sheet_of E s) ≡ span s 0 (sheet_end E s)
  unfolding encode sheet_of
  encode_span = section_written s bytes _ _ _ (watched_place E s) (watched_counted E s) drive_written (length-listed _ _) refl

  -- no byte is missing and none is left over
  pub encode_read : length s ≡ sheet_end E s → encode E (sheet_of E s) ≡ s
  encode_read whole = encode_span ∙ ap (span s 0) (sym whole) ∙ span_whole s

  pub encodable : Encodable E (sheet_of E s)
  unfolding sheet_of
  encodable =
      record {
        nodes = rw (length-listed (nodes_counted s) (node_at s)) (word_bound s 0 bytes);
        modules = rw (length-listed (modules_counted s) (module_at E s)) (word_bound s (modules_place s) bytes);
        drive = rw (length-listed (events_counted E s) (event_at E s)) (word_bound s (drive_place E s) bytes);
        watched = rw (length-listed (watched_counted E s) (watched_at E s)) (word_bound s (watched_place E s) bytes);
        delays = listed_all (λ m. m.delay < 65536) (modules_counted s) (module_at E s) (λ m b. word_bound s (delay_place E (module_place E s m)) bytes);
        ticks = listed_all (λ e. e.tick < 2 ^ 32) (events_counted E s) (event_at E s) (λ e b. long_bound s (event_place E s e) bytes);
        room = listed_all (λ m. (v : ℕ) → Memᴰ v (drop (room_for_inputs E) (inputs m)) → v ≡ 0) (modules_counted s) (module_at E s) (λ m b. no_room known s (module_place E s m));
      }

  pub one_byte_each : OneByteEach (sheet_of E s)
  unfolding sheet_of
  one_byte_each =
      record {
        nodes = listed_all (λ b. b < 256) (nodes_counted s) (node_at s) (λ v b. byte (node_place v));
        modules =
            listed_all
            (λ m. (m.kind < 256) × (m.parameter < 256) × (m.output < 256) × (m.first < 256) × (m.second < 256) × (m.third < 256))
            (modules_counted s)
            (module_at E s)
            (λ m b. (byte (module_place E s m), byte (module_place E s m + 1), byte (module_place E s m + 2), byte (module_place E s m + 3), byte (module_place E s m + 4), third (has_third E) (module_place E s m)));
        drive = listed_all (λ e. (e.node < 256) × (e.value < 256)) (events_counted E s) (event_at E s) (λ e b. (byte (event_place E s e + 4), byte (event_place E s e + 5)));
        watched = listed_all (λ b. b < 256) (watched_counted E s) (watched_at E s) (λ k b. byte (watch_place E s k));
      }
    where
      byte : (p : ℕ) → byte_at s p < 256
      byte = byte_bound s bytes

      third : (b : Bool) (p : ℕ) → (if b then byte_at s (p + 5) else 0) < 256
      third true p = byte (p + 5)
      third false p = omega arith

pub reading_encoded : {E : Edition} → Known E → (s : List ℕ) → Bytes s → AcceptedIn E s → encode E (sheet_of E s) ≡ s
reading_encoded known s bytes ok = encode_read known s bytes ok.whole
