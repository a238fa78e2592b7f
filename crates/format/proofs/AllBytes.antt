-- The bytes of records of one size in a row. Assumes nothing.
use mathlib.Core.List.{List, [], ◌∷◌, ◌++◌, append_assoc, append-nil}
use mathlib.Core.Path.{◌≡◌, refl, sym, ◌∙◌}
use Prim.Native.Nat.{ℕ, zero, suc, ◌+◌, ◌*◌, ◌<◌}
use native.Mathlib.Nat.{le_of_suc-le-suc, not-suc-le-zero}
use native.Mathlib.Omega.{arith}
use lib.ListN.{length, get_or, length-append, get_or-append}
use lib.Seq.{get_or-append-add}
use Rattle.sheet.specs.Enumerate.{each, listed}
use Rattle.format.specs.Encode.{all_bytes}

module _ {ℓ} {A : Type ℓ} where
  pub all_bytes-append : (bytes : A → List ℕ) (rs qs : List A) → all_bytes bytes (rs ++ qs) ≡ all_bytes bytes rs ++ all_bytes bytes qs
  unfolding all_bytes
  all_bytes-append bytes [] qs = refl
  all_bytes-append bytes (r ∷ rs) qs = rw (all_bytes-append bytes rs qs) (sym (append_assoc (bytes r) (all_bytes bytes rs) (all_bytes bytes qs)))

  -- records that are given by their numbers
  pub each_bytes : (bytes : A → List ℕ) (n : ℕ) (f : ℕ → A) → each n (λ i. bytes (f i)) ≡ all_bytes bytes (listed n f)
  unfolding each all_bytes
  each_bytes bytes zero f = refl
  each_bytes bytes (suc n) f = rw (each_bytes bytes n f, all_bytes-append bytes (listed n f) (f n ∷ []), append-nil (bytes (f n)))

  -- records of one size, the bytes of each in a row
  module _ (size : ℕ) (bytes : A → List ℕ) (sized : (r : A) → length (bytes r) ≡ size) where
    pub length-all_bytes : (rs : List A) → length (all_bytes bytes rs) ≡ size * length rs
    unfolding all_bytes
    length-all_bytes [] = omega arith
    length-all_bytes (r ∷ rs) = length-append (bytes r) (all_bytes bytes rs) ∙ omega (arith, sized r, length-all_bytes rs)

    -- record i stands at size * i
    pub get_or-all_bytes : (rs : List A) (d : A) (i j : ℕ) → i < length rs → j < size → get_or (all_bytes bytes rs) (size * i + j) 0 ≡ get_or (bytes (get_or rs i d)) j 0
    unfolding all_bytes
    get_or-all_bytes [] d i j h b = absurd (not-suc-le-zero h)
    get_or-all_bytes (r ∷ rs) d zero j h b = rw first (get_or-append (bytes r) (all_bytes bytes rs) 0 j (rw (sized r) b))
      where
        first : size * 0 + j ≡ j
        first = omega arith
    get_or-all_bytes (r ∷ rs) d (suc i) j h b =
        rw next (get_or-append-add (bytes r) (all_bytes bytes rs) (size * i + j) 0 ∙ get_or-all_bytes rs d i j (le_of_suc-le-suc h) b)
      where
        next : size * suc i + j ≡ length (bytes r) + (size * i + j)
        next = omega (arith, sized r)
