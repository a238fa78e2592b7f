-- What a number says is of one line, by one test that antt computes over the table. Assumes nothing.
use mathlib.Core.Bool.{Bool, true, false}
use mathlib.Core.List.{◌++◌}
use mathlib.Core.Path.{◌≡◌, refl}
use Prim.Native.Nat.{ℕ, suc}
use native.Mathlib.Omega.{arith}
use lib.Dec.{T}
use lib.ListN.{length}
use Rattle.std.specs.Prelude.{if◌then◌else◌}
use Rattle.level.proofs.Computed.{all_below, below}
use Rattle.lent.specs.Decimal.{decimal}
use Rattle.lent.specs.Letters.{letters}
use Rattle.lent.proofs.Shown.{Shown, all_shown, of_test, of_number, joined}
use Rattle.reason.specs.declared.Sort.TheVariants.{Bare}
use Rattle.reason.specs.Phrases.{phrases, before, unlisted, is_listed, phrase_of}
use Rattle.reason.specs.Reason.{said, unlisted_reason, reason}
use Rattle.reason.proofs.Listed.{listed-is}

all_said : T (all_below (suc (length phrases)) (λ n. all_shown (said (phrase_of n))))
unfolding letters
all_said = tt

of_unlisted : (n : ℕ) → Shown (unlisted_reason n)
unfolding letters
of_unlisted n = joined (letters unlisted ++ decimal n) (letters (before Bare)) (joined (letters unlisted) (decimal n) (of_test (letters unlisted) tt) (of_number n)) (of_test (letters (before Bare)) tt)

pub of_reason : (n : ℕ) → Shown (reason n)
unfolding reason
of_reason n = here (is_listed n) refl
  where
    here : (q : Bool) → is_listed n ≡ q → Shown (if q then said (phrase_of n) else unlisted_reason n)
    here true e = of_test (said (phrase_of n)) (below (suc (length phrases)) (λ n. all_shown (said (phrase_of n))) all_said n (omega (arith, (listed-is n e).1)))
    here false e = of_unlisted n
