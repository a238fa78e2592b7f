-- What is read from an encoded sheet: its counts, each record at its place, where it ends, and so the sheet. Assumes nothing.
use mathlib.Core.List.{List, []}
use mathlib.Core.Path.{◌≡◌, refl, sym, ap, ◌∙◌}
use Prim.Native.Nat.{ℕ, ◌+◌, ◌<◌}
use lib.ListN.{length, get_or}
use Rattle.sheet.specs.declared.Module.{Module}
use Rattle.sheet.specs.declared.Event.{Event}
use Rattle.sheet.specs.declared.Edition.{Edition}
use Rattle.sheet.specs.Layout.{count_size, event_size, nodes_counted, node_at, modules_place, modules_counted, module_at, drive_place, events_counted, event_at, watched_place, watched_counted, watched_at, sheet_end, sheet_of}
use Rattle.sheet.specs.Sheet.{Sheet, no_module, no_event}
use Rattle.format.specs.Accepted.{Known}
use Rattle.format.specs.Encode.{module_bytes, event_bytes, all_bytes, encode, Encodable}
use Rattle.sheet.proofs.Listed.{listed-is, get_or-mem}
use Rattle.format.proofs.AllBytes.{length-all_bytes}
use Rattle.format.proofs.EncodeSpan.{Stand, span_whole, stand_at, record_stands}
use Rattle.format.proofs.EncodeRecord.{module_length, module_read, event_read}
use Rattle.format.proofs.EncodeSection.{nodes_bytes, modules_bytes, drive_bytes, Section, before_section, section_read}

-- what stands before each section, from the last section back to the first
module _ (E : Edition) (sheet : Sheet) where
  drive_stands : Stand (encode E sheet) 0 (drive_bytes E sheet)
  unfolding encode
  drive_stands = before_section (encode E sheet) _ sheet.watched (length sheet.watched) (span_whole (encode E sheet))

  modules_stand : Stand (encode E sheet) 0 (modules_bytes E sheet)
  modules_stand = before_section (encode E sheet) _ (all_bytes event_bytes sheet.drive) (length sheet.drive) drive_stands

  nodes_stand : Stand (encode E sheet) 0 (nodes_bytes sheet)
  nodes_stand = before_section (encode E sheet) _ (all_bytes (module_bytes E) sheet.modules) (length sheet.modules) modules_stand

-- each section's place, from the first section on: it follows from the counts before it; the default d is never met
module _ {E : Edition} (known : Known E) (sheet : Sheet) (fits : Encodable E sheet) where
  nodes_section : Section (encode E sheet) [] sheet.nodes (length sheet.nodes) 0
  nodes_section = section_read _ _ _ _ (nodes_stand E sheet) 0 refl fits.nodes

  pub counts_nodes : nodes_counted (encode E sheet) ≡ length sheet.nodes
  counts_nodes = nodes_section.known

  pub node_byte_lem : (v d : ℕ) → v < length sheet.nodes → node_at (encode E sheet) v ≡ get_or sheet.nodes v d
  node_byte_lem v d b = stand_at (encode E sheet) _ sheet.nodes d v b nodes_section.there

  modules_place_lem : length (nodes_bytes sheet) ≡ modules_place (encode E sheet)
  modules_place_lem = nodes_section.ends ∙ rw counts_nodes

  modules_section : Section (encode E sheet) (nodes_bytes sheet) (all_bytes (module_bytes E) sheet.modules) (length sheet.modules) (modules_place (encode E sheet))
  modules_section = section_read _ _ _ _ (modules_stand E sheet) _ modules_place_lem fits.modules

  pub counts_modules : modules_counted (encode E sheet) ≡ length sheet.modules
  counts_modules = modules_section.known

  pub module_of_lem : (m : ℕ) (d : Module) → m < length sheet.modules → module_at E (encode E sheet) m ≡ get_or sheet.modules m d
  module_of_lem m d b =
      module_read known (encode E sheet) _ _ (fits.delays _ (get_or-mem sheet.modules m d b)) (fits.room _ (get_or-mem sheet.modules m d b))
      (record_stands (encode E sheet) E.size (module_bytes E) (module_length known) _ sheet.modules d m b modules_section.there)

  drive_place_lem : length (modules_bytes E sheet) ≡ drive_place E (encode E sheet)
  drive_place_lem = modules_section.ends ∙ rw (length-all_bytes E.size (module_bytes E) (module_length known) sheet.modules, counts_modules)

  drive_section : Section (encode E sheet) (modules_bytes E sheet) (all_bytes event_bytes sheet.drive) (length sheet.drive) (drive_place E (encode E sheet))
  drive_section = section_read _ _ _ _ (drive_stands E sheet) _ drive_place_lem fits.drive

  pub counts_events : events_counted E (encode E sheet) ≡ length sheet.drive
  counts_events = drive_section.known

  pub event_of_lem : (e : ℕ) (d : Event) → e < length sheet.drive → event_at E (encode E sheet) e ≡ get_or sheet.drive e d
  event_of_lem e d b =
      event_read (encode E sheet) _ _ (fits.ticks _ (get_or-mem sheet.drive e d b))
      (record_stands (encode E sheet) event_size event_bytes (λ r. refl) _ sheet.drive d e b drive_section.there)

  watched_place_lem : length (drive_bytes E sheet) ≡ watched_place E (encode E sheet)
  watched_place_lem = drive_section.ends ∙ rw (length-all_bytes event_size event_bytes (λ r. refl) sheet.drive, counts_events)

  watched_section : Section (encode E sheet) (drive_bytes E sheet) sheet.watched (length sheet.watched) (watched_place E (encode E sheet))
  unfolding encode
  watched_section = section_read _ _ _ _ (span_whole (encode E sheet)) _ watched_place_lem fits.watched

  pub counts_watched : watched_counted E (encode E sheet) ≡ length sheet.watched
  counts_watched = watched_section.known

  pub watched_node_lem : (k d : ℕ) → k < length sheet.watched → watched_at E (encode E sheet) k ≡ get_or sheet.watched k d
  watched_node_lem k d b = stand_at (encode E sheet) _ sheet.watched d k b watched_section.there

  pub encode_whole : length (encode E sheet) ≡ sheet_end E (encode E sheet)
  unfolding encode
  encode_whole = watched_section.ends ∙ ap (λ n. watched_place E (encode E sheet) + count_size + n) (sym counts_watched)

  pub read_encode : sheet_of E (encode E sheet) ≡ sheet
  unfolding sheet_of
  read_encode =
      λ i.
      record {
        nodes = listed-is sheet.nodes 0 (nodes_counted s) (node_at s) counts_nodes (λ v b. node_byte_lem v 0 b) i;
        modules = listed-is sheet.modules no_module (modules_counted s) (module_at E s) counts_modules (λ m b. module_of_lem m no_module b) i;
        drive = listed-is sheet.drive no_event (events_counted E s) (event_at E s) counts_events (λ e b. event_of_lem e no_event b) i;
        watched = listed-is sheet.watched 0 (watched_counted E s) (watched_at E s) counts_watched (λ k b. watched_node_lem k 0 b) i;
      }
    where
      s : List ℕ
      s = encode E sheet
