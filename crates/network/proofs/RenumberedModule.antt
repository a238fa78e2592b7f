-- A module numbered anew: its used inputs are those of the module, numbered anew, its unused ones stay, and it is sound where the module is.
-- Assumes nothing.
use lib.Dec.{ltb}
use lib.ListN.{take, drop}
use borrow.Author.Tests.{lt-ltb}
use mathlib.Core.List.Memᴰ
use mathlib.Core.List.{List, [], ◌∷◌, map, Memᴰ}
use mathlib.Core.Path.{◌≡◌, refl, subst}
use native.Mathlib.Omega.{arith}
use Prim.Native.Nat.{ℕ, ◌<◌, suc, zero}
use Rattle.std.specs.Prelude.{if◌then◌else◌}
use Rattle.level.specs.Rule.{inputs_of}
use Rattle.sheet.specs.Wiring.{used_inputs, unused_inputs, module_rule}
use Rattle.sheet.specs.declared.Module.{Module}
use Rattle.format.specs.Accepted.{SoundModule}
use Rattle.network.specs.Renumbering.{renumbered_module}
use Rattle.level.proofs.Computed.{below}

-- three inputs, the first k of them numbered anew
abbrev renumbered_inputs : (ℕ → ℕ) → ℕ → ℕ → ℕ → ℕ → List ℕ
renumbered_inputs to k a b c = (if ltb 0 k then to a else a) ∷ (if ltb 1 k then to b else b) ∷ (if ltb 2 k then to c else c) ∷ []

used_unused : (to : ℕ → ℕ) (k a b c : ℕ) → (take k (renumbered_inputs to k a b c) ≡ map to (take k (a ∷ b ∷ c ∷ []))) × (drop k (renumbered_inputs to k a b c) ≡ drop k (a ∷ b ∷ c ∷ []))
used_unused to zero a b c = (refl, refl)
used_unused to (suc zero) a b c = (refl, refl)
used_unused to (suc (suc zero)) a b c = (refl, refl)
used_unused to (suc (suc (suc zero))) a b c = (refl, refl)
used_unused to (suc (suc (suc (suc k)))) a b c =
    rw (lt-ltb 0 (suc (suc (suc (suc k)))) (omega arith), lt-ltb 1 (suc (suc (suc (suc k)))) (omega arith), lt-ltb 2 (suc (suc (suc (suc k)))) (omega arith)) (refl, refl)

module _ (to : ℕ → ℕ) (m : Module) where
  pub used_renumbered : used_inputs (renumbered_module to m) ≡ map to (used_inputs m)
  used_renumbered = (used_unused to (inputs_of (module_rule m)) m.first m.second m.third).0

  unused_renumbered : unused_inputs (renumbered_module to m) ≡ unused_inputs m
  unused_renumbered = (used_unused to (inputs_of (module_rule m)) m.first m.second m.third).1

  pub sound_renumbered : (n : ℕ) → ((v : ℕ) → v < n → to v < n) → SoundModule n m → SoundModule n (renumbered_module to m)
  sound_renumbered n below h =
      record {
        kind = h.kind;
        parameter = h.parameter;
        output = below m.output h.output;
        used = λ v i. let r = Memᴰ.of_map to (used_inputs m) (subst (Memᴰ v) used_renumbered i) in subst (λ w. w < n) r.2 (below r.0 (h.used r.0 r.1));
        unused = λ v i. h.unused v (subst (Memᴰ v) unused_renumbered i);
        delay = h.delay;
      }
