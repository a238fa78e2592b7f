-- An accepted sheet of an edition's kinds fits its format: its counts, delays and ticks, no used input lacks room, and every other number is a byte.
-- Assumes nothing.
use lib.Dec.{eqb, leb, leb→le}
use lib.ListN.{drop, take-append-drop}
use mathlib.Core.Bool.{Bool, true, false}
use mathlib.Core.List.Memᴰ
use mathlib.Core.List.{List, [], ◌∷◌, Memᴰ}
use mathlib.Core.Logic.{⊎_elim}
use mathlib.Core.Path.{◌≡◌, refl, sym, subst}
use native.Mathlib.Nat.{le_of_suc-le-suc, not-suc-le-zero}
use native.Mathlib.Omega.{arith}
use Prim.Native.Nat.{ℕ, zero, suc, ◌<◌, ◌≤◌, ◌^◌}
use Rattle.std.specs.Prelude.{if◌then◌else◌}
use Rattle.level.specs.Gate.{some}
use Rattle.level.specs.Kind.{rule_of}
use Rattle.level.specs.Rule.{inputs_of}
use Rattle.sheet.specs.Refusal.{greatest_parameter}
use Rattle.sheet.specs.Sheet.{node_count, Sheet, module_of, no_event, no_module}
use Rattle.sheet.specs.Wiring.{inputs, used_inputs, module_rule}
use Rattle.sheet.specs.declared.Edition.{Edition}
use Rattle.sheet.specs.declared.Module.{Module}
use Rattle.format.specs.Accepted.{SoundModule, Accepted, Known, HasKinds, the_first, the_second}
use Rattle.format.specs.Encode.{room_for_inputs, Encodable, OneByteEach}
use Rattle.level.proofs.Computed.{below}
use Rattle.level.proofs.Gates.{same_inputs, most_inputs}
use Rattle.network.proofs.Listing.{watched_bytes}
use Rattle.network.proofs.Rising.{members_all}

at_most_15 : (kind : ℕ) → greatest_parameter kind ≤ 15
at_most_15 kind = go (eqb kind 0) (eqb kind 9)
  where
    go : (a b : Bool) → (if a then 3 else if b then 15 else 0) ≤ 15
    go true b = omega arith
    go false true = omega arith
    go false false = omega arith

-- a sound module's input is a node where it is used, and 0 where not
input_below : (n : ℕ) (m : Module) → 1 ≤ n → SoundModule n m → (v : ℕ) → Memᴰ v (inputs m) → v < n
input_below n m some h v i =
    ⊎_elim (h.used v) (λ u. omega (arith, h.unused v u))
    (Memᴰ.append_cases (used_inputs m) (subst (Memᴰ v) (sym (take-append-drop (inputs_of (module_rule m)) (inputs m))) i))

-- an edition's records have room for the inputs that its kinds use
room_for : {E : Edition} → Known E → (kind parameter : ℕ) → kind ≤ E.greatest → inputs_of (rule_of kind parameter) ≤ room_for_inputs E
room_for the_first kind p h = rw (same_inputs kind p) (leb→le _ _ (below 10 (λ k. leb (inputs_of (rule_of k 0)) 2) tt kind (omega arith)))
room_for the_second kind p h = most_inputs kind p

-- what is left after more of a list is left after less of it
later : (i j : ℕ) (l : List ℕ) (v : ℕ) → i ≤ j → Memᴰ v (drop j l) → Memᴰ v (drop i l)
later zero zero l v h m = m
later zero (suc j) [] v h m = m
later zero (suc j) (a ∷ l) v h m = Memᴰ.tail (later zero j l v (omega arith) m)
later (suc i) zero l v h m = absurd (not-suc-le-zero h)
later (suc i) (suc j) [] v h m = m
later (suc i) (suc j) (a ∷ l) v h m = later i j l v (le_of_suc-le-suc h) m

module _ (S : Sheet) (acc : Accepted S) where
  pub fits : {E : Edition} → Known E → HasKinds E S → Encodable E S
  fits {E} known kinds =
      record {
        nodes = omega (arith, acc.nodes);
        modules = omega (arith, acc.modules);
        drive = omega (arith, acc.events);
        watched = omega (arith, acc.watched);
        delays = members_all (λ m. m.delay < 65536) S.modules no_module (λ k h. omega (arith, (acc.sound_modules k h).delay));
        ticks = members_all (λ e. e.tick < 2 ^ 32) S.drive no_event (λ k h. omega (arith, (acc.sound_events k h).tick));
        room =
            members_all (λ m. (v : ℕ) → Memᴰ v (drop (room_for_inputs E) (inputs m)) → v ≡ 0) S.modules no_module
            (λ k h v i. (acc.sound_modules k h).unused v (later _ _ (inputs (module_of S k)) v (room_for known (module_of S k).kind (module_of S k).parameter (kinds k h)) i));
      }

  pub one_byte_each : OneByteEach S
  one_byte_each =
      record {
        nodes = members_all (λ b. b < 256) S.nodes 0 (λ v h. omega (arith, acc.node_bytes v h));
        modules =
            members_all (λ m. (m.kind < 256) × (m.parameter < 256) × (m.output < 256) × (m.first < 256) × (m.second < 256) × (m.third < 256)) S.modules no_module
            (λ k h. module_bytes (module_of S k) (acc.sound_modules k h));
        drive = members_all (λ e. (e.node < 256) × (e.value < 256)) S.drive no_event (λ k h. let e = acc.sound_events k h in omega (arith, e.node.node, e.value, acc.nodes));
        watched = watched_bytes S acc;
      }
    where
      module_bytes : (m : Module) → SoundModule (node_count S) m → (m.kind < 256) × (m.parameter < 256) × (m.output < 256) × (m.first < 256) × (m.second < 256) × (m.third < 256)
      module_bytes m h =
          let below = input_below (node_count S) m acc.some_node h in
          omega (arith, acc.nodes, at_most_15 m.kind, below m.first (Memᴰ.head refl), below m.second (Memᴰ.tail (Memᴰ.head refl)), below m.third (Memᴰ.tail (Memᴰ.tail (Memᴰ.head refl))), h.kind, h.parameter, h.output)
