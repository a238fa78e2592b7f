-- A text that bytes are printed into: nothing printed yet, a byte that fits, and one step after another. Assumes nothing.
use mathlib.Core.List.{List, [], ◌∷◌, ◌++◌, append_assoc, append-nil}
use mathlib.Core.Path.{◌≡◌, refl, sym, ap, ◌∙◌}
use Prim.Native.Nat.{ℕ, suc, ◌+◌, ◌<◌, ◌≤◌}
use native.Mathlib.Omega.{arith}
use lib.ListN.{length, take, drop, set, get_or, length-append, length-take, length-drop, take-append-drop}
use lib.Seq.{take-nil, take_all, drop-cons, set_at, length-take-le}
use Rattle.lent.specs.declared.Writer.{Writer}
use Rattle.lent.specs.Lent.{text_after, Printed, Prints, Puts}

pub none-printed : (text : List ℕ) → Printed text [] text 0
none-printed text = record { place = omega arith; holds = rw (take-nil (length text)) }

-- the text stays as long as it was
length_after : (bytes text : List ℕ) → length (text_after bytes text) ≡ length text
length_after bytes text = simp (length-append, length-take, length-drop) (omega arith)

module _ {start bytes text : List ℕ} {at : ℕ} (p : Printed start bytes text at) where
  same_length : length text ≡ length start
  same_length = ap length p.holds ∙ length_after bytes start

  -- the place lies within the text
  pub place_within : at ≤ length text
  place_within = omega (arith, p.place, same_length)

  pub put_fits : (b : ℕ) → at < length text → Printed start (bytes ++ b ∷ []) (set text at b) (at + 1)
  put_fits b h =
      record {
        place = simp length-append (omega (arith, p.place, same_length));
        holds = ap (λ t. set t at b) all ∙ set_at bytes (get_or start (length bytes) 0) (drop (suc (length bytes)) start) b at (sym next) ∙ sym after;
      }
    where
      next : at ≡ length bytes
      next = omega (arith, p.place, same_length)

      within : length bytes < length start
      within = omega (arith, p.place, same_length)

      all : text ≡ bytes ++ get_or start (length bytes) 0 ∷ drop (suc (length bytes)) start
      all = p.holds ∙ rw (take_all (length start) bytes (omega (arith, within)), drop-cons start (length bytes) 0 within)

      one_more : length (bytes ++ b ∷ []) ≡ suc (length bytes)
      one_more = simp length-append (omega arith)

      after : text_after (bytes ++ b ∷ []) start ≡ bytes ++ b ∷ drop (suc (length bytes)) start
      after = rw (one_more, take_all (length start) (bytes ++ b ∷ []) (omega (arith, within, one_more)), append_assoc)

-- bytes that fit are printed whole
pub whole : {start bytes text : List ℕ} {at : ℕ} → Printed start bytes text at → length bytes ≤ length start → (at ≡ length bytes) × (text ≡ bytes ++ drop (length bytes) start)
whole {start} {bytes} p fits = (p.place ∙ omega (arith, fits), p.holds ∙ rw (take_all (length start) bytes fits))

-- Up to a text's end, what a step prints fixes the text and the next place: it prints after what already stands there.
pub determined : {more text text' : List ℕ} {at at' : ℕ} → at ≤ length text → Prints more text at text' at' → Printed text (take at text ++ more) text' at'
determined {text = text} {at = at} within prints = prints text (take at text) standing
  where
    so_far : length (take at text) ≡ at
    so_far = length-take-le at text within

    standing : Printed text (take at text) text at
    standing =
        record {
          place = omega (arith, so_far, within);
          holds = sym (rw (take_all (length text) (take at text) (omega (arith, so_far, within)), so_far, take-append-drop));
        }

pub prints_none : (text : List ℕ) (at : ℕ) → Prints [] text at text at
prints_none text at start bytes p = rw append-nil p

pub prints_then : {xs ys t₀ t₁ t₂ : List ℕ} {a₀ a₁ a₂ : ℕ} → Prints xs t₀ a₀ t₁ a₁ → Prints ys t₁ a₁ t₂ a₂ → Prints (xs ++ ys) t₀ a₀ t₂ a₂
prints_then {xs} {ys} f g start bytes p = rw (← append_assoc) (g start (bytes ++ xs) (f start bytes p))

-- the same of a writer, whose text stays the one that was lent
pub puts_none : (w : Writer) → Puts [] w w
puts_none w = record { lent = refl; size = refl; prints = prints_none w.text.now w.at }

pub puts_then : {xs ys : List ℕ} {w₀ w₁ w₂ : Writer} → Puts xs w₀ w₁ → Puts ys w₁ w₂ → Puts (xs ++ ys) w₀ w₂
puts_then f g = record { lent = g.lent ∙ f.lent; size = g.size ∙ f.size; prints = prints_then f.prints g.prints }

-- what a writer puts from a text's start is printed into that text
pub from_start : {more : List ℕ} {w₀ w₁ : Writer} → w₀.at ≡ 0 → Puts more w₀ w₁ → Printed w₀.text.now more w₁.text.now w₁.at
from_start {w₀ = w₀} start puts = puts.prints w₀.text.now [] (rw start (none-printed w₀.text.now))
