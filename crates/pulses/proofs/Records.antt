-- The short pulses by the cells are those that the records of the whole listing show, and these are read back from its bytes. Assumes nothing.
use mathlib.Core.Bool.{Bool, true, false, ◌&&◌}
use mathlib.Core.List.{List, [], ◌∷◌, ◌++◌, map, map-append, append_assoc, append-nil, flat_map, Memᴰ}
use mathlib.Core.Path.{◌≡◌, refl, sym, ap, ap₂, ◌∙◌}
use Prim.Native.Nat.{ℕ, zero, suc}
use lib.ListN.{length, get_or}
use Rattle.std.specs.Prelude.{if◌then◌else◌}
use Rattle.sheet.specs.Enumerate.{each, listed}
use Rattle.sheet.specs.Sheet.{Sheet}
use Rattle.sheet.proofs.Each.{each_same}
use Rattle.sheet.proofs.Listed.{listed-is}
use Rattle.network.specs.Timeline.{Cells}
use Rattle.network.specs.Listing.{changes, record_of, records_at}
use Rattle.network.specs.Ends.{Ended, next_change, ended_of, ended_listing}
use Rattle.network.specs.Buffer.{buffer_after}
use Rattle.listing.proofs.ReadBack.{Small, read_back}
use Rattle.pulses.specs.Pulse.{Pulse, to_report, pulse_of, pulses_at, short_pulses}
use Rattle.pulses.specs.InListing.{pulse_in, pulses_in}

module _ (horizon width : ℕ) where
  -- what records show, one after the other
  abbrev pub shown : List Ended → List Pulse
  shown records = flat_map (pulse_in horizon width) records

  shown_append : (l m : List Ended) → shown (l ++ m) ≡ shown l ++ shown m
  unfolding flat_map
  shown_append [] m = refl
  shown_append (r ∷ l) m = rw (shown_append l m) (sym (append_assoc (pulse_in horizon width r) (shown l) (shown m)))

  module _ (c : Cells) (vs : List ℕ) where
    at_tick : (t : ℕ) (vs : List ℕ) → pulses_at c horizon width t vs ≡ shown (map (ended_of c horizon) (records_at c t vs))
    unfolding flat_map pulses_at records_at
    at_tick t [] = refl
    at_tick t (v ∷ vs) = by (changes c v t) (at_tick t vs)
      where
        pulse : Pulse
        pulse = pulse_of t v (next_change c horizon v t)

        rest : List Pulse
        rest = pulses_at c horizon width t vs

        later : List Pulse
        later = shown (map (ended_of c horizon) (records_at c t vs))

        here : (b : Bool) → rest ≡ later → (if b then pulse ∷ rest else rest) ≡ (if b then pulse ∷ [] else []) ++ later
        here true e = ap (λ l. pulse ∷ l) e
        here false e = e

        by : (a : Bool) → rest ≡ later
            → (if a && to_report horizon width t (next_change c horizon v t) then pulse ∷ rest else rest)
            ≡ shown (map (ended_of c horizon) (if a then record_of c t v ∷ records_at c t vs else records_at c t vs))
        by true e = here (to_report horizon width t (next_change c horizon v t)) e
        by false e = e

    below : (n : ℕ) → each n (λ t. pulses_at c horizon width t vs) ≡ shown (map (ended_of c horizon) (each n (λ t. records_at c t vs)))
    unfolding each flat_map
    below zero = refl
    below (suc n) =
        ap₂ ◌++◌ (below n) (at_tick n vs)
        ∙ sym (ap shown (map-append (ended_of c horizon) (each n (λ t. records_at c t vs)) (records_at c n vs)) ∙ shown_append (map (ended_of c horizon) (each n (λ t. records_at c t vs))) (map (ended_of c horizon) (records_at c n vs)))

  pub from_listing : (S : Sheet) (c : Cells) → short_pulses S c horizon width ≡ shown (ended_listing S c horizon)
  from_listing S c = below c S.watched horizon

  -- records that are given by their numbers
  shown_each : (n : ℕ) (f : ℕ → Ended) → each n (λ i. pulse_in horizon width (f i)) ≡ shown (listed n f)
  unfolding each flat_map
  shown_each zero f = refl
  shown_each (suc n) f = rw (shown_each n f, shown_append (listed n f) (f n ∷ []), append-nil (pulse_in horizon width (f n)))

  pub from_bytes : (records : List Ended) (buffer : List ℕ) (n : ℕ) → n ≡ length records → ((r : Ended) → Memᴰ r records → Small r)
      → pulses_in horizon width (buffer_after records buffer) n ≡ shown records
  from_bytes records buffer n count small =
      each_same n _ (λ i. pulse_in horizon width (get_or records i none)) (λ i h. ap (pulse_in horizon width) (read_back records buffer none small i (rw (← count) h)))
      ∙ shown_each n (λ i. get_or records i none)
      ∙ ap shown (listed-is records none n (λ i. get_or records i none) count (λ i h. refl))
    where
      none : Ended
      none = record { start = record { tick = 0; node = 0; value = 0 }; end = 0 }
