-- Document 01: the sheet is read front to back. What stands at a place: a count or record, and none where the bytes end inside it.
use Rattle.std.specs.Prelude.{List, ℕ, Option, None, Some, if◌then◌else◌}
use Rattle.sheet.specs.declared.Edition.{Edition}
use Rattle.sheet.specs.declared.Module.{Module}
use Rattle.sheet.specs.declared.Event.{Event}
use Rattle.sheet.specs.Bytes.{byte_at, word_at, ends_inside}
use Rattle.sheet.specs.Layout.{count_size, event_size, module_record, event_record}

-- of a size
abbrev pub whole_read : {A : Type 0} → List ℕ → ℕ → ℕ → A → Option A
whole_read s p size stands = if ends_inside s p size then None else Some stands

abbrev pub count_read : List ℕ → ℕ → Option ℕ
count_read s p = whole_read s p count_size (word_at s p)

abbrev pub node_read : List ℕ → ℕ → Option ℕ
node_read s p = whole_read s p 1 (byte_at s p)

abbrev pub module_read : Edition → List ℕ → ℕ → Option Module
module_read e s p = whole_read s p e.size (module_record e s p)

abbrev pub event_read : List ℕ → ℕ → Option Event
event_read s p = whole_read s p event_size (event_record s p)
