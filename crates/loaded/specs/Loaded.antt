-- Document 02, W-210: a sheet whose drive is drawn, replacing its events. All other bytes stay in their order.
use Rattle.std.specs.Prelude.{List, ◌++◌, ℕ, ◌+◌, ◌-◌, ◌*◌, length, take, drop}
use Rattle.sheet.specs.declared.Edition.{Edition}
use Rattle.sheet.specs.declared.Event.{Event}
use Rattle.sheet.specs.Layout.{event_size, drive_place, events_counted, watched_place, sheet_of}
use Rattle.sheet.specs.Sheet.{Sheet}
use Rattle.draw.specs.Drive.{sheet_inputs, drawn_drive, drive_bytes}

-- what stands up to a place, a drive's section, and what stands from a later place on
abbrev pub with_section : List ℕ → ℕ → ℕ → List Event → List ℕ
with_section s from to drive = take from s ++ drive_bytes drive ++ drop to s

-- the inputs of the sheet that stands in bytes
abbrev pub inputs_in : Edition → List ℕ → List ℕ
inputs_in e s = sheet_inputs (sheet_of e s)

unfoldable pub loaded : Edition → List ℕ → ℕ → ℕ → List ℕ
loaded e s seed n = with_section s (drive_place e s) (watched_place e s) (drawn_drive (inputs_in e s) seed n)

-- the length needed: the sheet's own, with as many events as are drawn
abbrev pub needed : Edition → List ℕ → ℕ → ℕ
needed e s n = length s - event_size * events_counted e s + event_size * (length (inputs_in e s) + n)

-- the same sheet with another drive
abbrev pub with_drive : Sheet → List Event → Sheet
with_drive S drive = record { nodes = S.nodes; modules = S.modules; drive = drive; watched = S.watched }
