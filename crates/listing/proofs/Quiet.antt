-- A tick without records leaves what is shown as it is: every watched node has its value shown already. Assumes nothing.
use borrow.Author.Tests.{eqb-true}
use mathlib.Core.Bool.{Bool, true, false}
use mathlib.Core.List.{List, [], ◌∷◌, ◌++◌, append-nil}
use mathlib.Core.Path.{◌≡◌, refl, sym}
use native.Mathlib.Omega.{arith}
use Prim.Native.Nat.{ℕ}
use lib.Dec.{eqb}
use lib.ListN.{length, get_or, set}
use lib.Seq.{set-get_or}
use Rattle.std.specs.Prelude.{if◌then◌else◌}
use Rattle.network.specs.Listing.{Record}
use Rattle.model.specs.Fresh.{fresh, show_all}
use Rattle.listing.specs.declared.Listing.{Listing}
use Rattle.listing.specs.Ends.{Holding}
use Rattle.listing.specs.Step.{RecordsWritten}

shown_still : (t : ℕ) (values shown vs : List ℕ) → length (fresh t values shown vs) ≡ 0 → show_all values shown vs ≡ shown
unfolding fresh show_all
shown_still t values shown [] e = refl
shown_still t values shown (v ∷ vs) e = at (eqb (get_or values v 0) (get_or shown v 0)) refl (shown_still t values shown vs) e
  where
    at : (b : Bool) → eqb (get_or values v 0) (get_or shown v 0) ≡ b → (length (fresh t values shown vs) ≡ 0 → show_all values shown vs ≡ shown)
        → length (if b then fresh t values shown vs else record { tick = t; node = v; value = get_or values v 0 } ∷ fresh t values shown vs) ≡ 0
        → show_all values (set shown v (get_or values v 0)) vs ≡ shown
    at true q rest e = rw (eqb-true (get_or values v 0) (get_or shown v 0) q, set-get_or shown v 0) (rest e)
    at false q rest e = absurd (omega arith)

-- and the listing as it is
pub nothing_written : (t : ℕ) {buffer : List ℕ} {before : List Record} {watched values : List ℕ} {listing : Listing} → length (fresh t values listing.values watched) ≡ 0
    → length listing.values ≡ 256 → Holding buffer before listing → RecordsWritten buffer before listing t watched values listing
nothing_written t {buffer} {before} {watched} {values} {listing} e size h =
    record { holding = same (fresh t values listing.values watched) e; now_shown = sym (shown_still t values listing.values watched e); shown_size = size }
  where
    same : (records : List Record) → length records ≡ 0 → Holding buffer (before ++ records) listing
    same [] z = rw append-nil h
    same (r ∷ rs) z = absurd (omega arith)
