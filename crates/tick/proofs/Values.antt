-- An array of which one entry is replaced. Assumes nothing.
use mathlib.Core.List.{List, [], ◌∷◌}
use mathlib.Core.Path.{◌∙◌}
use Prim.Native.Nat.{ℕ, zero, suc, ◌<◌}
use lib.ListN.{get_or, set, length-set}
use Rattle.tick.specs.Rest.{Levels}

below_set : (n : ℕ) (l : List ℕ) (i a : ℕ) → a < n → ((v : ℕ) → get_or l v 0 < n) → (v : ℕ) → get_or (set l i a) v 0 < n
below_set n [] i a h b v = b v
below_set n (x ∷ xs) zero a h b zero = h
below_set n (x ∷ xs) zero a h b (suc v) = b (suc v)
below_set n (x ∷ xs) (suc i) a h b zero = b zero
below_set n (x ∷ xs) (suc i) a h b (suc v) = below_set n xs i a h (λ w. b (suc w)) v

pub levels_set : {values : List ℕ} → Levels values → (i a : ℕ) → a < 4 → Levels (set values i a)
levels_set {values} l i a h = record { size = length-set values i a ∙ l.size; each = below_set 4 values i a h l.each }
