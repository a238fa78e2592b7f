-- How long what a number says is at most, by one test that antt computes over the table. Assumes nothing.
use mathlib.Core.Bool.{Bool, true, false}
use mathlib.Core.Path.{◌≡◌, refl}
use Prim.Native.Nat.{ℕ, suc, ◌≤◌}
use native.Mathlib.Omega.{arith}
use lib.Dec.{T, leb, leb→le}
use lib.ListN.{length, length-append}
use Rattle.std.specs.Prelude.{if◌then◌else◌}
use Rattle.level.proofs.Computed.{all_below, below}
use Rattle.lent.specs.Letters.{letters}
use Rattle.lent.proofs.Digits.{at_most_ten}
use Rattle.reason.specs.Phrases.{phrases, is_listed, phrase_of}
use Rattle.reason.specs.Reason.{said, unlisted_reason, reason}
use Rattle.reason.proofs.Listed.{listed-is}

said_lengths : T (all_below (suc (length phrases)) (λ n. leb (length (said (phrase_of n))) 152))
unfolding letters
said_lengths = tt

pub reason-length : (n : ℕ) → length (reason n) ≤ 152
unfolding reason letters
reason-length n = here (is_listed n) refl
  where
    here : (b : Bool) → is_listed n ≡ b → length (if b then said (phrase_of n) else unlisted_reason n) ≤ 152
    here true e = leb→le _ 152 (below (suc (length phrases)) (λ n. leb (length (said (phrase_of n))) 152) said_lengths n (omega (arith, (listed-is n e).1)))
    here false e = simp length-append (omega (arith, at_most_ten 10 n))
