-- One section after what stands before it, both ways: written from the bytes it was read from, and read from the bytes it was written as.
-- A sheet's bytes are four sections put on one after another, so each way is this law four times. Assumes nothing.
use mathlib.Core.List.{List, ◌++◌}
use mathlib.Core.Path.{◌≡◌, ◌∙◌}
use Prim.Native.Nat.{ℕ, ◌+◌, ◌<◌}
use native.Mathlib.Nat.{zero-add}
use lib.ListN.{length, length-append}
use Rattle.sheet.specs.declared.Edition.{Edition}
use Rattle.sheet.specs.Bytes.{word_at}
use Rattle.sheet.specs.Layout.{count_size}
use Rattle.sheet.specs.Sheet.{Sheet}
use Rattle.format.specs.Encode.{word_bytes, module_bytes, event_bytes, all_bytes, Bytes}
use Rattle.format.proofs.EncodeSpan.{span, Stand, span_front, stand_halves}
use Rattle.format.proofs.EncodeNumber.{word_read, word_written}

-- what stands before the modules, before the drive and before the watched nodes
abbrev pub nodes_bytes : Sheet → List ℕ
nodes_bytes sheet = word_bytes (length sheet.nodes) ++ sheet.nodes

abbrev pub modules_bytes : Edition → Sheet → List ℕ
modules_bytes E sheet = nodes_bytes sheet ++ word_bytes (length sheet.modules) ++ all_bytes (module_bytes E) sheet.modules

abbrev pub drive_bytes : Edition → Sheet → List ℕ
drive_bytes E sheet = modules_bytes E sheet ++ word_bytes (length sheet.drive) ++ all_bytes event_bytes sheet.drive

pub section_written : (s : List ℕ) → Bytes s → (before body : List ℕ) (count place n : ℕ) → before ≡ span s 0 place → count ≡ word_at s place → body ≡ span s (place + count_size) n
    → before ++ word_bytes count ++ body ≡ span s 0 (place + count_size + n)
section_written s bytes before body count place n b c d = rw (b, c, d, word_written s place bytes, span_front s place count_size) (span_front s (place + count_size) n)

-- a section that is read: its count, its records' bytes, and where it ends
pub record Section (s before body : List ℕ) (count place : ℕ) : Type 0 where
  pub known : word_at s place ≡ count
  pub there : Stand s (place + count_size) body
  pub ends : length (before ++ word_bytes count ++ body) ≡ place + count_size + length body

module _ (s before body : List ℕ) (count : ℕ) (h : Stand s 0 (before ++ word_bytes count ++ body)) where
  counted : Stand s 0 (before ++ word_bytes count) × Stand s (0 + length (before ++ word_bytes count)) body
  counted = stand_halves s 0 (before ++ word_bytes count) body h

  opened : Stand s 0 before × Stand s (0 + length before) (word_bytes count)
  opened = stand_halves s 0 before (word_bytes count) counted.0

  pub before_section : Stand s 0 before
  before_section = opened.0

  pub section_read : (place : ℕ) → length before ≡ place → count < 65536 → Section s before body count place
  section_read place e b =
      record {
        known = word_read s place count b (rw (zero-add, e) at opened.1);
        there = rw (zero-add, ahead) at counted.1;
        ends = length-append (before ++ word_bytes count) body ∙ rw ahead;
      }
    where
      ahead : length (before ++ word_bytes count) ≡ place + count_size
      ahead = length-append before (word_bytes count) ∙ rw e
