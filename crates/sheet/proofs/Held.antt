-- What is held of a sheet is that sheet. Assumes nothing.
use mathlib.Core.List.{List}
use mathlib.Core.Path.{◌≡◌, refl, ap, ◌∙◌}
use Prim.Native.Nat.{ℕ, ◌-◌}
use lib.ListN.{length, take, replicate}
use lib.Seq.{take_at}
use Rattle.sheet.specs.declared.contents.Contents.{Contents}
use Rattle.sheet.specs.Limits.{most_nodes, most_modules, most_events, most_watched}
use Rattle.sheet.specs.Sheet.{Sheet, no_module, no_event}
use Rattle.sheet.specs.Contents.{filled, Holds, held_sheet}

-- a list filled up begins with the list
pub take-filled {ℓ} : {A : Type ℓ} (size : ℕ) (blank : A) (l : List A) (n : ℕ) → n ≡ length l → take n (filled size blank l) ≡ l
take-filled size blank l n e = rw e (take_at l (replicate (size - length l) blank) (length l) refl)

pub held_is : (S : Sheet) (c : Contents) → Holds S c → held_sheet c ≡ S
unfolding held_sheet
held_is S c h =
    λ i.
    record {
      nodes = (ap (take c.nodes.count) h.nodes ∙ take-filled most_nodes 0 S.nodes c.nodes.count h.counts_nodes) i;
      modules = (ap (take c.modules.count) h.modules ∙ take-filled most_modules no_module S.modules c.modules.count h.counts_modules) i;
      drive = (ap (take c.drive.count) h.drive ∙ take-filled most_events no_event S.drive c.drive.count h.counts_events) i;
      watched = (ap (take c.watched.count) h.watched ∙ take-filled most_watched 0 S.watched c.watched.count h.counts_watched) i;
    }
