-- What loading an accepted sheet leaves is what the model begins from; and what the passes rest on holds of it. Assumes nothing.
use mathlib.Core.List.{List}
use mathlib.Core.Path.{◌≡◌, refl, sym, ap, ◌∙◌, subst}
use Prim.Native.Nat.{ℕ, zero, suc, ◌<◌, ◌≤◌}
use native.Mathlib.Omega.{arith}
use borrow.Author.Tests.{ne_eqb}
use lib.ListN.{length, get_or, take, length-map, replicate, length-replicate, get_or-replicate}
use lib.Seq.{get_or-take}
use Rattle.sheet.specs.declared.Module.{Module}
use Rattle.sheet.specs.Limits.{input_byte}
use Rattle.sheet.specs.Sheet.{Sheet, node_count, node_byte, no_module, module_count, module_of, output_of}
use Rattle.sheet.specs.WorkingOrder.{working_order, in_working_order}
use Rattle.sheet.proofs.Listed.{get_or-map_within}
use Rattle.format.specs.Accepted.{Accepted, Driven}
use Rattle.network.proofs.WorkingOrder.{every_module_once}
use Rattle.network.proofs.RecordsInOrder.{record_there}
use Rattle.model.specs.Fresh.{not_shown}
use Rattle.model.specs.Drive.{event_in}
use Rattle.model.specs.Passes.{module_in}
use Rattle.model.proofs.Setting.{module_total, module_at, is_driven}
use Rattle.model.specs.Starts.{StartsOf}
use Rattle.model.specs.State.{first_value}
use Rattle.model.specs.Store.{Store}
use Rattle.model.specs.Ticks.{ordered_at, Begun}
use Rattle.tick.specs.Rest.{AllKnown, Levels, Driving}
use Rattle.load.specs.First.{first_of}

pub first_value_lem : (S : Sheet) (v : ℕ) → first_of (node_byte S v) ≡ first_value S v
first_value_lem S v = refl

-- an array of zeros
zeros : (n v : ℕ) → get_or {A = ℕ} (replicate n 0) v 0 ≡ 0
zeros zero v = refl
zeros (suc n) zero = refl
zeros (suc n) (suc v) = zeros n v

pub zero_levels : Levels (replicate 256 0)
zero_levels = record { size = length-replicate {A = ℕ} 256 0; each = λ v. omega (arith, zeros 256 v) }

module _ (S : Sheet) (acc : Accepted S) where
  pub driving : Driving S.drive
  driving =
      record {
        values = λ e h. (acc.sound_events e h).value;
        ticks = λ a b l h. omega (arith, acc.drive_rises a b l h, (acc.sound_events b h).node.node, acc.nodes);
      }

  -- no event drives a node that a module drives
  pub apart : (e k : ℕ) → e < length S.drive → k < length (in_working_order S) → (event_in S.drive e).node ≡ (module_in (in_working_order S) k).output → ⊥
  apart e k h l same =
      let b : k < module_count S = rw (module_total S) at l in
      (acc.sound_events e h).node.undriven (subst (Driven S) (sym (same ∙ ap (λ m. m.output) (module_at S k b))) (is_driven S k b))

  pub known_modules : AllKnown (in_working_order S)
  known_modules k h =
      let q : k < length (working_order S) = rw (length-map (working_order S) (module_of S)) at h in
      let m = acc.sound_modules (ordered_at S k) ((every_module_once S).known k (rw (every_module_once S).count at q)) in
      rw (get_or-map_within (module_of S) (working_order S) k 0 no_module q) (record { has_rule = m.kind; allowed = m.parameter })

  -- nodes as they were read, and records in working order
  module _ (nodes : List ℕ) (read : take (node_count S) nodes ≡ S.nodes) (records : List Module) (ordered : take (module_count S) records ≡ in_working_order S)
      {values last : List ℕ} (given : List ℕ) (vs : (v : ℕ) → v < node_count S → get_or values v 0 ≡ first_of (get_or nodes v 0)) (vl : Levels values)
      (gs : (k : ℕ) → k < module_count S → get_or given k 0 ≡ get_or values (module_in records k).output 0) (gn : length given ≡ module_count S) (gl : (k : ℕ) → get_or given k 0 < 4)
      (ls : (k : ℕ) → k < module_count S → get_or last k 0 ≡ get_or values (module_in records k).output 0) (ll : Levels last) where
    first : (v : ℕ) → v < node_count S → get_or values v 0 ≡ first_value S v
    first v h = vs v h ∙ ap first_of (sym (get_or-take (node_count S) nodes v 0 h) ∙ ap (λ (l : List ℕ). get_or l v 0) read)

    -- its output's value is the initial value, which is no input's
    initial : (k : ℕ) → k < module_count S → get_or values (module_in records k).output 0 ≡ node_byte S (output_of S (ordered_at S k))
    initial k h =
        let b = (every_module_once S).known k h in
        let o = output_of S (ordered_at S k) in
        let n : o < node_count S = (acc.sound_modules (ordered_at S k) b).output in
        let i : node_byte S o ≤ 3 = acc.initial_values o n (record { driver = ordered_at S k; listed = b; output = refl }) in
        ap (λ (m : Module). get_or values m.output 0) (record_there S records ordered k h)
        ∙ first o n
        ∙ rw (ne_eqb (node_byte S o) input_byte (omega arith))

    pub loaded : (store : Store) {shown : List ℕ} (starts : List ℕ) {pending : store.Kept} → shown ≡ replicate 256 not_shown → StartsOf (in_working_order S) starts → pending ≡ store.nothing
        → Begun store S (record { values = values; given = given; last = last; shown = shown; starts = starts; pending = pending })
    loaded store starts s b p =
        record {
          values_size = vl.size;
          values = first;
          levels = vl.each;
          given_size = gn;
          given = λ k h. gs k h ∙ initial k h;
          given_levels = gl;
          last_size = ll.size;
          last = λ k h. ls k h ∙ initial k h;
          last_levels = ll.each;
          shown_size = rw s (length-replicate 256 not_shown);
          shown = λ v h. rw s (get_or-replicate 256 v not_shown 0 h);
          starts = b;
          pending = p;
        }
