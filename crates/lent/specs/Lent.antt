-- What a lent text holds once bytes are printed into it from its start:
-- bytes that do not fit are cut off, and past the last one it is as it was.
use Rattle.std.specs.Prelude.{List, ◌++◌, ◌≡◌, ℕ, min, length, take, drop}
use Rattle.lent.specs.declared.Writer.{Writer}

-- the bytes that fit, and past them as it was
abbrev pub text_after : List ℕ → List ℕ → List ℕ
text_after bytes text = take (length text) bytes ++ drop (length bytes) text

-- how many bytes fit
abbrev pub fitting : List ℕ → List ℕ → ℕ
fitting bytes text = min (length bytes) (length text)

-- bytes are printed into a text that was `start`: it is now `text`, and the next byte's place is `at`
pub record Printed (start bytes text : List ℕ) (at : ℕ) : Type 0 where
  pub place : at ≡ fitting bytes start
  pub holds : text ≡ text_after bytes start

-- a step prints further bytes, whatever was printed before it
abbrev pub Prints : List ℕ → List ℕ → ℕ → List ℕ → ℕ → Type 0
Prints more text at text' at' = (start bytes : List ℕ) → Printed start bytes text at → Printed start (bytes ++ more) text' at'

-- a step puts further bytes into the lent text, which stays the one that its owner lent, and as long as it was, wherever the next byte's place is
pub record Puts (more : List ℕ) (old new : Writer) : Type 0 where
  pub lent : new.text.ghost_name ≡ old.text.ghost_name
  pub size : length new.text.now ≡ length old.text.now
  pub prints : Prints more old.text.now old.at new.text.now new.at
