-- Document 01, "Working and renumbering": a sheet with its nodes renumbered, its modules listed in another order,
-- and its drive and watched nodes sorted again.
use Rattle.std.specs.Prelude.{List, [], ◌∷◌, map, ◌≡◌, ℕ, ◌<◌, leb, ltb, cond, if◌then◌else◌}
use Rattle.level.specs.Rule.{inputs_of}
use Rattle.sheet.specs.declared.Module.{Module}
use Rattle.sheet.specs.declared.Event.{Event}
use Rattle.sheet.specs.declared.Edition.{Edition}
use Rattle.sheet.specs.Enumerate.{listed}
use Rattle.sheet.specs.Sheet.{Sheet, node_count, node_byte, module_of}
use Rattle.sheet.specs.Wiring.{module_rule}
use Rattle.sheet.specs.Layout.{sheet_of}
use Rattle.sheet.specs.Refusal.{key}
use Rattle.format.specs.Encode.{encode}
use Rattle.network.specs.Listing.{Record}
use Rattle.network.specs.Ends.{Ended, ended_key}

-- a permutation of the numbers below n: each gets a number, no two the same, and back
pub record Permutation (n : ℕ) : Type 0 where
  pub to : ℕ → ℕ
  pub from : ℕ → ℕ
  pub to_below : (v : ℕ) → v < n → to v < n
  pub from_below : (v : ℕ) → v < n → from v < n
  pub from_to : (v : ℕ) → v < n → from (to v) ≡ v
  pub to_from : (v : ℕ) → v < n → to (from v) ≡ v

-- sorted by a number
unfoldable pub insert {ℓ} : {A : Type ℓ} → (A → ℕ) → A → List A → List A
insert by a [] = a ∷ []
insert by a (b ∷ bs) = cond (leb (by a) (by b)) (a ∷ b ∷ bs) (b ∷ insert by a bs)

unfoldable pub sort {ℓ} : {A : Type ℓ} → (A → ℕ) → List A → List A
sort by [] = []
sort by (a ∷ rest) = insert by a (sort by rest)

-- outputs and used inputs are numbered anew; unused inputs stay 0, and the rest of the record stays
abbrev pub renumbered_module : (ℕ → ℕ) → Module → Module
renumbered_module to m =
    let inputs = inputs_of (module_rule m) in
    record {
      kind = m.kind;
      parameter = m.parameter;
      output = to m.output;
      first = if ltb 0 inputs then to m.first else m.first;
      second = if ltb 1 inputs then to m.second else m.second;
      third = if ltb 2 inputs then to m.third else m.third;
      delay = m.delay;
    }

abbrev pub renumbered_event : (ℕ → ℕ) → Event → Event
renumbered_event to e = record { tick = e.tick; node = to e.node; value = e.value }

-- A node's byte stands at its new number; the modules stand in the listed order; the drive is sorted by tick, then by node,
-- the watched nodes by number.
-- No record is added or lost.
unfoldable pub renumbered : Sheet → (to from : ℕ → ℕ) → List ℕ → Sheet
renumbered S to from order =
    record {
      nodes = listed (node_count S) (λ w. node_byte S (from w));
      modules = map (λ m. renumbered_module to (module_of S m)) order;
      drive = sort key (map (renumbered_event to) S.drive);
      watched = sort (λ v. v) (map to S.watched);
    }

-- the bytes of P, from those of N, a permutation of its nodes and a listed order of its modules
abbrev pub renumbered_bytes : (e : Edition) (s : List ℕ) → Permutation (node_count (sheet_of e s)) → List ℕ → List ℕ
renumbered_bytes e s π order = encode e (renumbered (sheet_of e s) π.to π.from order)

-- a listing is renumbered by changing only its node numbers and sorting by tick, then by node; ends are carried along
abbrev pub renumbered_record : (ℕ → ℕ) → Record → Record
renumbered_record to r = record { tick = r.tick; node = to r.node; value = r.value }

abbrev pub renumbered_ended : (ℕ → ℕ) → Ended → Ended
renumbered_ended to r = record { start = renumbered_record to r.start; end = r.end }

abbrev pub renumbered_listing : (ℕ → ℕ) → List Ended → List Ended
renumbered_listing to records = sort ended_key (map (renumbered_ended to) records)
