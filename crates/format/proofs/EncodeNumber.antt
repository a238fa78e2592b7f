-- Numbers of several bytes: read from what they are written as, and written as what they are read from. Assumes nothing.
use mathlib.Core.List.{List, [], ◌∷◌}
use mathlib.Core.Path.{◌≡◌, ap}
use Prim.Native.Nat.{ℕ, ◌+◌, ◌<◌, ◌/◌, ◌%◌, ◌^◌}
use native.Mathlib.Decide.{dec_lt}
use native.Mathlib.Nat.{add-zero, div-div-eq-div-mul}
use native.Mathlib.Omega.{arith}
use lib.ListN.{length, get_or-eq_default}
use Rattle.sheet.specs.Enumerate.{each}
use Rattle.sheet.specs.Bytes.{byte_at, word_at, long_at}
use Rattle.format.specs.Encode.{word_bytes, long_bytes, Bytes}
use Rattle.format.proofs.EncodeSpan.{span}

-- a byte is below 256, also past the end, where 0 is read
pub byte_bound : (s : List ℕ) → Bytes s → (p : ℕ) → byte_at s p < 256
byte_bound s bytes p = at (dec_lt p (length s))
  where
    at : Dec (p < length s) → byte_at s p < 256
    at (yes h) = bytes p h
    at (no h) = rw (get_or-eq_default s 0 {n = p} (omega arith)) (omega arith)

module _ (s : List ℕ) (p : ℕ) where
  pub word_read : (n : ℕ) → n < 65536 → span s p 2 ≡ word_bytes n → word_at s p ≡ n
  unfolding each
  word_read n b h = omega (arith, rw add-zero at (ap (λ l. byte_at l 0) h), ap (λ l. byte_at l 1) h)

  -- below 2 ^ 32 nothing is left over after the fourth byte
  pub long_read : (n : ℕ) → n < 2 ^ 32 → span s p 4 ≡ long_bytes n → long_at s p ≡ n
  unfolding each
  long_read n b h =
      omega (arith, rw add-zero at (ap (λ l. byte_at l 0) h), ap (λ l. byte_at l 1) h, ap (λ l. byte_at l 2) h, ap (λ l. byte_at l 3) h, div-div-eq-div-mul n 256 256, div-div-eq-div-mul n 65536 256, top)
    where
      top : n / 16777216 % 256 ≡ n / 16777216
      top = omega arith

  module _ (bytes : Bytes s) where
    bounds : (byte_at s p < 256) × (byte_at s (p + 1) < 256) × (byte_at s (p + 2) < 256) × (byte_at s (p + 3) < 256)
    bounds = (byte_bound s bytes p, byte_bound s bytes (p + 1), byte_bound s bytes (p + 2), byte_bound s bytes (p + 3))

    pub word_bound : word_at s p < 65536
    word_bound = omega (arith, bounds)

    pub long_bound : long_at s p < 2 ^ 32
    long_bound = omega (arith, bounds)

    pub word_written : word_bytes (word_at s p) ≡ span s p 2
    unfolding each
    word_written = rw add-zero (λ i. same.0 i ∷ same.1 i ∷ [])
      where
        n : ℕ
        n = word_at s p

        same : (n % 256 ≡ byte_at s p) × (n / 256 % 256 ≡ byte_at s (p + 1))
        same = omega (arith, bounds)

    pub long_written : long_bytes (long_at s p) ≡ span s p 4
    unfolding each
    long_written = rw add-zero (λ i. same.0 i ∷ same.1 i ∷ same.2 i ∷ same.3 i ∷ [])
      where
        n : ℕ
        n = long_at s p

        same : (n % 256 ≡ byte_at s p) × (n / 256 % 256 ≡ byte_at s (p + 1)) × (n / 65536 % 256 ≡ byte_at s (p + 2)) × (n / 16777216 % 256 ≡ byte_at s (p + 3))
        same = omega (arith, bounds)
