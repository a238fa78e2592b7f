-- The bytes in a row from a place on, 0 past the end: what a section, a record or a number is read from and is written to. Assumes nothing.
use mathlib.Core.List.{List, [], ◌∷◌, ◌++◌, append_assoc, append-nil}
use mathlib.Core.Path.{◌≡◌, refl, sym, ap, ◌∙◌}
use Prim.Native.Nat.{ℕ, zero, suc, ◌+◌, ◌*◌, ◌<◌}
use native.Mathlib.Nat.{zero-add, add-zero, add-suc, add_assoc, mul-le-mul_left, mul-zero, mul-suc}
use native.Mathlib.Omega.{arith}
use lib.ListN.{length, get_or, take, drop, length-append}
use lib.Seq.{take_at, drop_at}
use Rattle.sheet.specs.Enumerate.{each, listed}
use Rattle.sheet.specs.Bytes.{byte_at}
use Rattle.format.specs.Encode.{all_bytes}
use Rattle.sheet.proofs.Listed.{length-listed, get_or-listed, listed-is}
use Rattle.format.proofs.AllBytes.{length-all_bytes, get_or-all_bytes, all_bytes-append}

abbrev pub span : List ℕ → ℕ → ℕ → List ℕ
span s p n = listed n (λ j. byte_at s (p + j))

-- the bytes stand there in s
abbrev pub Stand : List ℕ → ℕ → List ℕ → Type 0
Stand s p bytes = span s p (length bytes) ≡ bytes

module _ (s : List ℕ) where
  pub span_none : (p : ℕ) → [] ≡ span s p 0
  unfolding each
  span_none p = refl

  pub span_whole : span s 0 (length s) ≡ s
  span_whole = listed-is s 0 (length s) (λ j. byte_at s (0 + j)) refl (λ i b. rw zero-add)

  pub span_joined : (p n m : ℕ) → span s p n ++ span s (p + n) m ≡ span s p (n + m)
  unfolding each
  span_joined p n zero = rw add-zero (append-nil (span s p n))
  span_joined p n (suc m) =
      sym (append_assoc (span s p n) (span s (p + n) m) (byte_at s (p + n + m) ∷ []))
      ∙ rw (span_joined p n m, add_assoc p n m, add-suc n m)

  -- from the first byte on
  pub span_front : (p n : ℕ) → span s 0 p ++ span s p n ≡ span s 0 (p + n)
  span_front p n = rw zero-add at (span_joined 0 p n)

  -- what is put together stands part after part
  pub stand_halves : (p : ℕ) (a b : List ℕ) → Stand s p (a ++ b) → Stand s p a × Stand s (p + length a) b
  stand_halves p a b h =
      (sym (take_at x y n long) ∙ ap (take n) parts ∙ take_at a b n refl, sym (drop_at x y n long) ∙ ap (drop n) parts ∙ drop_at a b n refl)
    where
      n : ℕ
      n = length a

      x : List ℕ
      x = span s p n

      y : List ℕ
      y = span s (p + n) (length b)

      long : length x ≡ n
      long = length-listed n (λ j. byte_at s (p + j))

      parts : x ++ y ≡ a ++ b
      parts = span_joined p n (length b) ∙ rw (length-append a b) at h

  pub stand_at : (p : ℕ) (bytes : List ℕ) (d j : ℕ) → j < length bytes → Stand s p bytes → byte_at s (p + j) ≡ get_or bytes j d
  stand_at p bytes d j b h = sym (get_or-listed (length bytes) (λ j. byte_at s (p + j)) j d b) ∙ ap (λ l. get_or l j d) h

  -- records of one size, each at its own place
  module _ {ℓ} {A : Type ℓ} (size : ℕ) (bytes : A → List ℕ) where
    pub records_written : (p : ℕ) (f : ℕ → A) → ((i : ℕ) → bytes (f i) ≡ span s (p + size * i) size) → (n : ℕ) → all_bytes bytes (listed n f) ≡ span s p (size * n)
    unfolding each all_bytes
    records_written p f h zero = rw (mul-zero size)
    records_written p f h (suc n) =
        all_bytes-append bytes (listed n f) (f n ∷ [])
        ∙ rw (records_written p f h n, append-nil (bytes (f n)), h n, mul-suc size n) (span_joined p (size * n) size)

    pub record_stands : ((r : A) → length (bytes r) ≡ size) → (p : ℕ) (rs : List A) (d : A) (i : ℕ) → i < length rs → Stand s p (all_bytes bytes rs) → span s (p + size * i) size ≡ bytes (get_or rs i d)
    record_stands sized p rs d i b h =
        listed-is (bytes r) 0 size (λ j. byte_at s (p + size * i + j)) (sym (sized r)) (λ j c. at j (rw (sized r) at c))
      where
        r : A
        r = get_or rs i d

        at : (j : ℕ) → j < size → byte_at s (p + size * i + j) ≡ get_or (bytes r) j 0
        at j c =
            let inside : size * i + j < length (all_bytes bytes rs) = omega (arith, length-all_bytes size bytes sized rs, mul-le-mul_left size b) in
            rw (add_assoc p (size * i) j) (stand_at p (all_bytes bytes rs) 0 (size * i + j) inside h ∙ get_or-all_bytes size bytes sized rs d i j b c)
