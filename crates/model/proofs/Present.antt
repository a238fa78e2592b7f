-- What stands while a tick is worked: an input has its cell, and a driven node the join of what its drivers give at present. To give a contribution keeps that. Where all drivers of a node
-- give what they contribute at the tick, the node has its cell. Assumes nothing.
use borrow.Author.Tests.{eqb-true, ne_eqb}
use lib.Dec.{eqb}
use lib.ListN.{length, get_or, set, length-set}
use lib.Seq.{get_or-set_same, get_or-set_other}
use mathlib.Core.List.{List}
use mathlib.Core.Path.{◌≡◌, refl, sym, ap, ◌∙◌, subst}
use native.Mathlib.Decide.{ℕ_discrete}
use native.Mathlib.Omega.{arith}
use Prim.Native.Nat.{ℕ, zero, suc, ◌<◌}
use Rattle.std.specs.Prelude.{if◌then◌else◌}
use Rattle.level.specs.Join.{joined}
use Rattle.level.specs.Level.{none}
use Rattle.sheet.specs.Enumerate.{chosen}
use Rattle.sheet.specs.Limits.{input_byte}
use Rattle.sheet.specs.Sheet.{Sheet, node_count, node_byte, module_count, output_of}
use Rattle.sheet.specs.WorkingOrder.{in_working_order}
use Rattle.sheet.proofs.Chosen.{chosen_same}
use Rattle.format.specs.Accepted.{Driven, Input}
use Rattle.format.proofs.Condition.{tells_driven}
use Rattle.network.specs.Timeline.{Cells, contributions, from_drivers}
use Rattle.network.proofs.Joined.{chosen_reordered, chosen_equal}
use Rattle.network.proofs.Listed.{one_to_one}
use Rattle.network.proofs.Values.{joined_values}
use Rattle.network.proofs.WorkingOrder.{every_module_once}
use Rattle.model.specs.Passes.{Settled, module_in, present_on, give}
use Rattle.model.specs.State.{first_value}
use Rattle.model.specs.Standing.{before, placed, given_by}
use Rattle.model.specs.Ticks.{ordered_at}
use Rattle.model.proofs.Puts.{Leveled, set_level}
use Rattle.model.proofs.Setting.{Setting, module_total, module_at, is_driven, sound, driven_cell_lem}

module _ (S : Sheet) where
  -- the drivers of a node by their positions, and as they are listed
  present_as : (given : List ℕ) (v : ℕ) (f : ℕ → ℕ) → ((k : ℕ) → k < module_count S → (placed S k).output ≡ v → get_or given k 0 ≡ f (ordered_at S k))
      → joined (present_on (in_working_order S) given v) ≡ joined (from_drivers S f v)
  present_as given v f same =
      ap (λ n. joined (chosen n (λ k. eqb (module_in (in_working_order S) k).output v) (λ k. get_or given k 0))) (module_total S)
      ∙ ap joined
      (chosen_same (module_count S) _ _ _ _ (λ k h. ap (λ m. eqb m.output v) (module_at S k h))
      (λ k h e. same k h (ap (λ m. m.output) (sym (module_at S k h)) ∙ eqb-true (module_in (in_working_order S) k).output v e)))
      ∙ chosen_reordered (module_count S) (ordered_at S) (one_to_one (every_module_once S)) (λ m. eqb (output_of S m) v) f

  present_value : (given : List ℕ) (v : ℕ) → Leveled given → joined (present_on (in_working_order S) given v) < 4
  present_value given v all = joined_values (length (in_working_order S)) (λ k. eqb (module_in (in_working_order S) k).output v) (λ k. get_or given k 0) (λ k h e. all k)

  -- what another module gives does not count
  present_other : (given : List ℕ) (k x v : ℕ) → k < module_count S → ((placed S k).output ≡ v → ⊥)
      → present_on (in_working_order S) (set given k x) v ≡ present_on (in_working_order S) given v
  present_other given k x v h other =
      chosen_same _ _ _ _ _ (λ j l. refl)
      (λ j l e. get_or-set_other given k j x 0
      (λ i. other (ap (λ m. m.output) (sym (module_at S k h)) ∙ ap (λ j. (module_in (in_working_order S) j).output) (sym i) ∙ eqb-true (module_in (in_working_order S) j).output v e)))

pub record Present (S : Sheet) (c : Cells) (t : ℕ) (now : Settled) : Type 0 where
  pub values_size : length now.values ≡ 256
  pub levels : Leveled now.values
  pub given_size : length now.given ≡ module_count S
  pub given_levels : Leveled now.given
  pub inputs : (v : ℕ) → Input S v → get_or now.values v 0 ≡ c t v
  pub joins : (v : ℕ) → Driven S v → get_or now.values v 0 ≡ joined (present_on (in_working_order S) now.given v)

module _ {S : Sheet} {c : Cells} {horizon : ℕ} (G : Setting S c horizon) where
  -- one contribution more
  pub one_given : (t : ℕ) {now : Settled} → Present S c t now → (k : ℕ) → k < module_count S → (x : ℕ) → x < 4 → Present S c t (give (in_working_order S) k x now)
  one_given t {now} p k h x level =
      record {
        values_size = length-set now.values out _ ∙ p.values_size;
        levels = set_level now.values out _ (present_value S (set now.given k x) out levels') p.levels;
        given_size = length-set now.given k x ∙ p.given_size;
        given_levels = levels';
        inputs = λ v i. get_or-set_other now.values out v _ 0 (λ e. i.undriven (subst (Driven S) (sym (e ∙ o)) (is_driven S k h))) ∙ p.inputs v i;
        joins = λ v d. at v d (ℕ_discrete v out);
      }
    where
      out : ℕ
      out = (module_in (in_working_order S) k).output

      o : out ≡ (placed S k).output
      o = ap (λ m. m.output) (module_at S k h)

      node : out < 256
      node = omega (arith, o, (sound G k h).output, G.accepted.nodes)

      levels' : Leveled (set now.given k x)
      levels' = set_level now.given k x level p.given_levels

      at : (v : ℕ) → Driven S v → Dec (v ≡ out) → get_or (give (in_working_order S) k x now).values v 0 ≡ joined (present_on (in_working_order S) (set now.given k x) v)
      at v d (yes e) = rw e (get_or-set_same now.values out _ 0 (omega (arith, p.values_size, node)))
      at v d (no n) =
          get_or-set_other now.values out v _ 0 n
          ∙ p.joins v d
          ∙ ap joined (sym (present_other S now.given k x v h (λ e. n (sym (o ∙ e)))))

  -- a node whose drivers all give what they contribute at the tick
  pub present_cell : (t v : ℕ) → t < horizon → {now : Settled} → Present S c t now → Driven S v
      → ((k : ℕ) → k < module_count S → (placed S k).output ≡ v → get_or now.given k 0 ≡ given_by S c k t) → get_or now.values v 0 ≡ c t v
  present_cell t v b {now} p d all = p.joins v d ∙ present_as S now.given v (contributions S c t) all ∙ sym (driven_cell_lem G t v b d)

  -- before a tick, each node has the join of what its drivers contributed there
  pub joins_before : (t v : ℕ) → t < suc horizon → Driven S v → v < node_count S → (given : List ℕ)
      → ((k : ℕ) → k < module_count S → get_or given k 0 ≡ before (given_by S c k) (node_byte S (placed S k).output) t)
      → before (λ u. c u v) (first_value S v) t ≡ joined (present_on (in_working_order S) given v)
  joins_before zero v b d h given all =
      rw (ne_eqb (node_byte S v) input_byte (λ e. omega (arith, e, G.accepted.initial_values v h d)))
      (sym (
      present_as S given v (λ m. node_byte S v) (λ k l e. all k l ∙ ap (node_byte S) e)
      ∙ chosen_equal (module_count S) (λ m. eqb (output_of S m) v) (node_byte S v)
      ∙ ap (λ x. if x then node_byte S v else none) ((tells_driven S v).1 d)
      ))
  joins_before (suc u) v b d h given all = driven_cell_lem G u v (omega arith) d ∙ sym (present_as S given v (contributions S c u) (λ k l e. all k l))
