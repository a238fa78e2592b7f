-- What an encoded sheet is made of is bytes: counts, delays and ticks by their remainders, the rest by what is asked of the sheet. Assumes nothing.
use mathlib.Core.List.{List, [], ◌∷◌, ◌++◌, Memᴰ}
use mathlib.Core.Path.{refl}
use Prim.Native.Nat.{ℕ, zero, suc, ◌<◌, ◌/◌, ◌%◌}
use native.Mathlib.Nat.{le_of_suc-le-suc, not-suc-le-zero}
use native.Mathlib.Omega.{arith}
use lib.ListN.{take}
use Rattle.sheet.specs.declared.Edition.{Edition}
use Rattle.sheet.specs.Sheet.{Sheet}
use Rattle.format.specs.Encode.{word_bytes, long_bytes, room_for_inputs, module_bytes, event_bytes, all_bytes, encode, Bytes, OneByteEach}

infixr 30 ◌then◌
infixl 20 ◌joined◌
-- bytes alone, entry by entry
data Small : List ℕ → Type 0 where
  none : Small []
  ◌then◌ : {x : ℕ} {xs : List ℕ} → x < 256 → Small xs → Small (x ∷ xs)

small_bytes : {l : List ℕ} → Small l → Bytes l
small_bytes none p b = absurd (not-suc-le-zero b)
small_bytes (h then hs) zero b = h
small_bytes (h then hs) (suc p) b = small_bytes hs p (le_of_suc-le-suc b)

◌joined◌ : {a b : List ℕ} → Small a → Small b → Small (a ++ b)
none joined k = k
(h then hs) joined k = h then (hs joined k)

members : (l : List ℕ) → ((b : ℕ) → Memᴰ b l → b < 256) → Small l
members [] h = none
members (x ∷ xs) h = h x (Memᴰ.head refl) then members xs (λ b m. h b (Memᴰ.tail m))

records {ℓ} : {A : Type ℓ} (bytes : A → List ℕ) (rs : List A) → ((r : A) → Memᴰ r rs → Small (bytes r)) → Small (all_bytes bytes rs)
unfolding all_bytes
records bytes [] h = none
records bytes (r ∷ rs) h = h r (Memᴰ.head refl) joined records bytes rs (λ q m. h q (Memᴰ.tail m))

low : (n : ℕ) → n % 256 < 256
low n = omega arith

word : (n : ℕ) → Small (word_bytes n)
word n = low n then low (n / 256) then none

long : (n : ℕ) → Small (long_bytes n)
long n = low n then low (n / 256) then low (n / 65536) then low (n / 16777216) then none

taken : {l : List ℕ} (n : ℕ) → Small l → Small (take n l)
taken zero k = none
taken (suc n) none = none
taken (suc n) (h then hs) = h then taken n hs

pub encode_bytes : (E : Edition) (sheet : Sheet) → OneByteEach sheet → Bytes (encode E sheet)
unfolding encode
encode_bytes E sheet h =
    small_bytes
    (word _
    joined members sheet.nodes h.nodes
    joined word _
    joined records (module_bytes E) sheet.modules (λ m k. let f = h.modules m k in f.0 then f.1 then f.2 then taken (room_for_inputs E) (f.3 then f.4 then f.5 then none) joined word m.delay)
    joined word _
    joined records event_bytes sheet.drive (λ e k. let f = h.drive e k in long _ joined f.0 then f.1 then none)
    joined word _
    joined members sheet.watched h.watched)
