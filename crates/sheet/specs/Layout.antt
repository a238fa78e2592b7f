-- Document 01, "The sheet": four sections in this order, each after its count of two bytes, and the records in them, as bytes.
-- An edition of the sheet fixes a module record's size and the greatest kind; this is all that tells editions apart. Document 02's W-205
-- adds the second, whose module records have a third input.
use Rattle.std.specs.Prelude.{Bool, List, ℕ, ◌+◌, ◌*◌, ltb, if◌then◌else◌}
use Rattle.level.specs.Kind.{last_of_two, last_kind}
use Rattle.sheet.specs.declared.Edition.{Edition}
use Rattle.sheet.specs.declared.Module.{Module}
use Rattle.sheet.specs.declared.Event.{Event}
use Rattle.sheet.specs.Bytes.{byte_at, word_at, long_at}
use Rattle.sheet.specs.Enumerate.{listed}
use Rattle.sheet.specs.Sheet.{Sheet}

-- document 01's edition, and document 02's
abbrev pub first_edition : Edition
first_edition = record { size = 7; greatest = last_of_two }

abbrev pub second_edition : Edition
second_edition = record { size = 8; greatest = last_kind }

-- the sizes of a count and of an event's record; a node's and a watched node's is one byte
abbrev pub count_size : ℕ
count_size = 2

abbrev pub event_size : ℕ
event_size = 6

-- nodes: their count stands first
abbrev pub nodes_counted : List ℕ → ℕ
nodes_counted s = word_at s 0

abbrev pub node_place : ℕ → ℕ
node_place v = count_size + v

abbrev pub node_at : List ℕ → ℕ → ℕ
node_at s v = byte_at s (node_place v)

-- modules: kind, parameter, output node, first input, second input, the third input in an edition that has one, delay
abbrev pub modules_place : List ℕ → ℕ
modules_place s = count_size + nodes_counted s

abbrev pub modules_counted : List ℕ → ℕ
modules_counted s = word_at s (modules_place s)

abbrev pub module_place : Edition → List ℕ → ℕ → ℕ
module_place e s m = modules_place s + count_size + e.size * m

-- a record longer than document 01's has a third input
abbrev pub has_third : Edition → Bool
has_third e = ltb first_edition.size e.size

-- and a module whose record has none has 0 for it
abbrev pub third_at : Edition → List ℕ → ℕ → ℕ
third_at e s p = if has_third e then byte_at s (p + 5) else 0

abbrev pub delay_place : Edition → ℕ → ℕ
delay_place e p = if has_third e then p + 6 else p + 5

abbrev pub module_record : Edition → List ℕ → ℕ → Module
module_record e s p =
    record {
      kind = byte_at s p;
      parameter = byte_at s (p + 1);
      output = byte_at s (p + 2);
      first = byte_at s (p + 3);
      second = byte_at s (p + 4);
      third = third_at e s p;
      delay = word_at s (delay_place e p);
    }

abbrev pub module_at : Edition → List ℕ → ℕ → Module
module_at e s m = module_record e s (module_place e s m)

-- drive: tick, input node, value
abbrev pub drive_place : Edition → List ℕ → ℕ
drive_place e s = module_place e s (modules_counted s)

abbrev pub events_counted : Edition → List ℕ → ℕ
events_counted e s = word_at s (drive_place e s)

abbrev pub event_place : Edition → List ℕ → ℕ → ℕ
event_place e s k = drive_place e s + count_size + event_size * k

abbrev pub event_record : List ℕ → ℕ → Event
event_record s p = record { tick = long_at s p; node = byte_at s (p + 4); value = byte_at s (p + 5) }

abbrev pub event_at : Edition → List ℕ → ℕ → Event
event_at e s k = event_record s (event_place e s k)

-- watched
abbrev pub watched_place : Edition → List ℕ → ℕ
watched_place e s = event_place e s (events_counted e s)

abbrev pub watched_counted : Edition → List ℕ → ℕ
watched_counted e s = word_at s (watched_place e s)

abbrev pub watch_place : Edition → List ℕ → ℕ → ℕ
watch_place e s k = watched_place e s + count_size + k

abbrev pub watched_at : Edition → List ℕ → ℕ → ℕ
watched_at e s k = byte_at s (watch_place e s k)

-- the place after the last section
abbrev pub sheet_end : Edition → List ℕ → ℕ
sheet_end e s = watch_place e s (watched_counted e s)

-- the sheet that stands in the bytes
unfoldable pub sheet_of : Edition → List ℕ → Sheet
sheet_of e s =
    record {
      nodes = listed (nodes_counted s) (node_at s);
      modules = listed (modules_counted s) (module_at e s);
      drive = listed (events_counted e s) (event_at e s);
      watched = listed (watched_counted e s) (watched_at e s);
    }
