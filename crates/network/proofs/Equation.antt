-- What a module's equation reads: of its used inputs alone, and at a delay d only the cells of ticks u with u + d at most t. Assumes nothing.
use lib.Dec.{ltb}
use borrow.Author.Tests.{ltb-false}
use mathlib.Core.Bool.{Bool, true, false}
use mathlib.Core.List.{[], ◌∷◌, Memᴰ, List, map}
use mathlib.Core.Path.{◌≡◌, refl, ap, ap₂, sym, ◌∙◌}
use native.Mathlib.Nat.{le_refl, le_step}
use native.Mathlib.Omega.{arith}
use Prim.Native.Nat.{ℕ, zero, suc, ◌+◌, ◌-◌, ◌≤◌, ◌<◌}
use Rattle.std.specs.Prelude.{if◌then◌else◌}
use Rattle.level.specs.Rule.{Rule, comes_to}
use Rattle.sheet.specs.Sheet.{Sheet, module_of, output_of, node_byte}
use Rattle.sheet.specs.Wiring.{used_inputs, module_rule}
use Rattle.network.specs.Timeline.{Cells, comes_to_at, output_cell, contribution, input_cells}
use Rattle.network.proofs.Memory.{at_start, recurrence}

-- what a module comes to at u: the lists of its inputs' cells of ticks at most u
comes_to_local : (a a' : ℕ → List ℕ) (initial : ℕ) (rule : Rule) (u : ℕ) → ((w : ℕ) → w ≤ u → a w ≡ a' w) → comes_to_at rule a initial u ≡ comes_to_at rule a' initial u
comes_to_local a a' initial rule zero same = at_start a initial rule ∙ ap (λ l. comes_to rule l initial) (same 0 (le_refl 0)) ∙ sym (at_start a' initial rule)
comes_to_local a a' initial rule (suc u) same =
    recurrence a initial rule u
    ∙ ap₂ (comes_to rule) (same (suc u) (le_refl (suc u))) (comes_to_local a a' initial rule u (λ w h. same w (le_step h)))
    ∙ sym (recurrence a' initial rule u)

output_local : (a a' : ℕ → List ℕ) (initial : ℕ) (rule : Rule) (d t : ℕ) → ((u : ℕ) → u + d ≤ t → a u ≡ a' u) → output_cell rule d a initial t ≡ output_cell rule d a' initial t
output_local a a' initial rule d t same = late (ltb t d) refl
  where
    late : (x : Bool) → ltb t d ≡ x → (if x then initial else comes_to_at rule a initial (t - d)) ≡ (if x then initial else comes_to_at rule a' initial (t - d))
    late true e = refl
    late false e =
        let d≤t : d ≤ t = ltb-false t d e in
        comes_to_local a a' initial rule (t - d) (λ w k. same w (omega arith))

pub map_same {ℓ κ} : {A : Type ℓ} {B : Type κ} (f g : A → B) (l : List A) → ((v : A) → Memᴰ v l → f v ≡ g v) → map f l ≡ map g l
map_same f g [] same = refl
map_same f g (v ∷ l) same = ap₂ ◌∷◌ (same v (Memᴰ.head refl)) (map_same f g l (λ w m. same w (Memᴰ.tail m)))

module _ (S : Sheet) (c c' : Cells) (m : ℕ) where
  pub equation_local : (t : ℕ) → ((u v : ℕ) → u + (module_of S m).delay ≤ t → Memᴰ v (used_inputs (module_of S m)) → c u v ≡ c' u v)
      → contribution S c m t ≡ contribution S c' m t
  equation_local t same =
      output_local (input_cells c (module_of S m)) (input_cells c' (module_of S m)) (node_byte S (output_of S m)) (module_rule (module_of S m)) (module_of S m).delay t
      (λ u k. map_same (c u) (c' u) (used_inputs (module_of S m)) (λ v. same u v k))

  -- Causality: a cell of its output at or before t + d depends on cells at or before t alone.
  pub causality : (t w : ℕ) → w ≤ t + (module_of S m).delay → ((u v : ℕ) → u ≤ t → Memᴰ v (used_inputs (module_of S m)) → c u v ≡ c' u v)
      → contribution S c m w ≡ contribution S c' m w
  causality t w b same = equation_local w (λ u v k. same u v (omega arith))

  -- so its cell t depends on no cell after t,
  pub reads_no_later : (t : ℕ) → ((u v : ℕ) → u ≤ t → Memᴰ v (used_inputs (module_of S m)) → c u v ≡ c' u v) → contribution S c m t ≡ contribution S c' m t
  reads_no_later t = causality t t (omega arith)

  -- and with a delay on none at t
  pub delayed_reads_earlier : (t : ℕ) → 0 < (module_of S m).delay → ((u v : ℕ) → u < t → Memᴰ v (used_inputs (module_of S m)) → c u v ≡ c' u v)
      → contribution S c m t ≡ contribution S c' m t
  delayed_reads_earlier t d same = equation_local t (λ u v k. same u v (omega arith))
