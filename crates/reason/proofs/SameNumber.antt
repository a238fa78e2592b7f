-- The same text up to the place is of the same number, whatever follows. Assumes nothing.
use mathlib.Core.Bool.{Bool, true, false}
use mathlib.Core.List.{List, ◌++◌, append_assoc, append_cancel_left}
use mathlib.Core.Path.{◌≡◌, refl, sym, ◌∙◌}
use Prim.Native.Nat.{ℕ, ◌^◌, ◌<◌}
use native.Mathlib.Decide.{ℕ_discrete}
use native.Mathlib.Omega.{arith}
use Rattle.lent.specs.Decimal.{decimal}
use Rattle.lent.specs.Letters.{letters}
use Rattle.lent.proofs.ReadBack.{decimal_then}
use Rattle.reason.specs.declared.Sort.TheVariants.{Bare}
use Rattle.reason.specs.Phrases.{before, is_listed, phrase_of}
use Rattle.reason.specs.Reason.{reason}
use Rattle.reason.proofs.Listed.{listed-is}
use Rattle.reason.proofs.Apart.{opening, openings_apart}

listed-reason : (n : ℕ) (r : List ℕ) → is_listed n ≡ true → reason n ++ r ≡ opening n ++ (letters (before (phrase_of n).sort) ++ r)
unfolding reason
listed-reason n r e = rw e (append_assoc (letters (phrase_of n).wrong) (letters (before (phrase_of n).sort)) r)

-- an unlisted number opens as 0 does, which is none
unlisted_reason : (n : ℕ) (r : List ℕ) → is_listed n ≡ false → reason n ++ r ≡ opening 0 ++ (decimal n ++ (letters (before Bare) ++ r))
unfolding reason
unlisted_reason n r e = rw e (simp append_assoc)

-- the same text gives the same number
module _ (n m : ℕ) (r s : List ℕ) (e : reason n ++ r ≡ reason m ++ s) where
  both_listed : is_listed n ≡ true → is_listed m ≡ true → n ≡ m
  both_listed a b = here (ℕ_discrete n m)
    where
      here : Dec (n ≡ m) → n ≡ m
      here (yes q) = q
      here (no differ) = absurd (openings_apart n m (listed-is n a).1 (listed-is m b).1 differ _ _ (sym (listed-reason n r a) ∙ e ∙ listed-reason m s b))

  one_listed : is_listed n ≡ true → is_listed m ≡ false → ⊥
  one_listed a b =
      openings_apart n 0 (listed-is n a).1 (omega arith) (λ q. omega (arith, (listed-is n a).0)) _ _
      (sym (listed-reason n r a) ∙ e ∙ unlisted_reason m s b)

  none-listed : n < 2 ^ 32 → m < 2 ^ 32 → is_listed n ≡ false → is_listed m ≡ false → n ≡ m
  unfolding letters
  none-listed hn hm a b =
      (decimal_then (letters (before Bare) ++ r) (letters (before Bare) ++ s) hn hm (λ h k. omega arith) (λ h k. omega arith)
      (append_cancel_left (opening 0) _ _ (sym (unlisted_reason n r a) ∙ e ∙ unlisted_reason m s b))).0

pub same_number : (n m : ℕ) → n < 2 ^ 32 → m < 2 ^ 32 → (r s : List ℕ) → reason n ++ r ≡ reason m ++ s → n ≡ m
same_number n m hn hm r s e = here (is_listed n) refl (is_listed m) refl
  where
    here : (a : Bool) → is_listed n ≡ a → (b : Bool) → is_listed m ≡ b → n ≡ m
    here true a true b = both_listed n m r s e a b
    here true a false b = absurd (one_listed n m r s e a b)
    here false a true b = absurd (one_listed m n s r (sym e) b a)
    here false a false b = none-listed n m r s e hn hm a b
