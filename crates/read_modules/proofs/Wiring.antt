-- The test of a module's nodes, node by node: its output, and then each input, used or not. Assumes nothing.
use mathlib.Core.Bool.{Bool, ◌||◌, or-false, or_assoc}
use mathlib.Core.List.{[], ◌∷◌}
use mathlib.Core.Path.{◌≡◌, ap₂, ◌∙◌}
use Prim.Native.Nat.{ℕ, zero, suc}
use native.Mathlib.Omega.{arith}
use borrow.Author.Tests.{lt-ltb}
use lib.Dec.{leb, ltb}
use lib.ListN.{take, drop}
use lib.Seq.{take-nil, drop-nil}
use Rattle.std.specs.Prelude.{if◌then◌else◌}
use Rattle.level.specs.Rule.{inputs_of}
use Rattle.level.specs.Kind.{rule_of}
use Rattle.sheet.specs.declared.Module.{Module}
use Rattle.sheet.specs.Enumerate.{any_of}
use Rattle.sheet.specs.Refusal.{miswired}

-- an input is wrong: used and no node, or unused and not 0
abbrev pub wrong : ℕ → Bool → ℕ → Bool
wrong nodes used node = if used then leb nodes node else ltb 0 node

by_count : (n nodes out a b c : ℕ)
    → (any_of (leb nodes) (out ∷ take n (a ∷ b ∷ c ∷ [])) || any_of (ltb 0) (drop n (a ∷ b ∷ c ∷ [])))
    ≡ (leb nodes out || wrong nodes (ltb 0 n) a || wrong nodes (ltb 1 n) b || wrong nodes (ltb 2 n) c)
by_count zero nodes out a b c = simp (or-false, or_assoc)
by_count (suc zero) nodes out a b c = simp (or-false, or_assoc)
by_count (suc (suc zero)) nodes out a b c = simp (or-false, or_assoc)
by_count (suc (suc (suc n))) nodes out a b c =
    ap₂ (λ used unused. any_of (leb nodes) (out ∷ a ∷ b ∷ c ∷ used) || any_of (ltb 0) unused) (take-nil n) (drop-nil n)
    ∙ simp (lt-ltb 0 (suc (suc (suc n))) (omega arith), lt-ltb 1 (suc (suc (suc n))) (omega arith), lt-ltb 2 (suc (suc (suc n))) (omega arith), or-false, or_assoc)

pub by_node : (nodes : ℕ) (m : Module) (n : ℕ) → n ≡ inputs_of (rule_of m.kind m.parameter)
    → miswired nodes m ≡ (leb nodes m.output || wrong nodes (ltb 0 n) m.first || wrong nodes (ltb 1 n) m.second || wrong nodes (ltb 2 n) m.third)
by_node nodes m n e = rw e (by_count (inputs_of (rule_of m.kind m.parameter)) nodes m.output m.first m.second m.third)
