-- Document 02, W-201: what a refusal's number says, up to its place.
use Rattle.std.specs.Prelude.{List, ◌++◌, ℕ, if◌then◌else◌}
use Rattle.lent.specs.Decimal.{decimal}
use Rattle.lent.specs.Letters.{letters}
use Rattle.reason.specs.declared.Sort.TheVariants.{Bare}
use Rattle.reason.specs.Phrases.{Phrase, before, unlisted, is_listed, phrase_of}

-- a phrase, and its sort before the place
abbrev pub said : Phrase → List ℕ
said p = letters p.wrong ++ letters (before p.sort)

-- a number that no table has is printed as itself after a phrase for unlisted numbers, its place without a sort
abbrev pub unlisted_reason : ℕ → List ℕ
unlisted_reason number = letters unlisted ++ decimal number ++ letters (before Bare)

unfoldable pub reason : ℕ → List ℕ
reason number = if is_listed number then said (phrase_of number) else unlisted_reason number
