-- A check refuses exactly at the first row of the table whose condition is met, and writes no record: the count is 0. Assumes nothing.
use mathlib.Core.Bool.{Bool, true, false}
use mathlib.Core.List.Memᴰ
use mathlib.Core.List.{List, [], ◌∷◌, Memᴰ}
use mathlib.Core.Logic.{◌↔◌}
use mathlib.Core.Path.{◌≡◌, refl, sym, ◌∙◌, ap, subst}
use Prim.Native.Nat.{ℕ}
use Rattle.std.specs.Prelude.{if◌then◌else◌}
use Rattle.sheet.specs.declared.Edition.{Edition}
use Rattle.sheet.specs.Outcome.{Outcome, finished, refused}
use Rattle.sheet.specs.Refusal.{Row, ◌at◌when◌, rows, first, checked_by}
use Rattle.format.specs.FirstMet.{FirstMet}
use Rattle.sheet.proofs.Rows.{◌and◌, finished≢refused, first_clear, passed_append}

number_of : Outcome → ℕ
number_of (finished count) = 0
number_of (refused number place count) = number

place_of : Outcome → ℕ
place_of (finished count) = 0
place_of (refused number place count) = place

-- any table: the row whose refusal is answered is the first that is met
pub first_met : (xs : List Row) (n p : ℕ) → first xs ≡ refused n p 0 → FirstMet xs n p
unfolding first number_of place_of
first_met [] n p e = absurd (finished≢refused e)
first_met (x ∷ xs) n p e = go (first_met xs n p) x.met refl e
  where
    go : (first xs ≡ refused n p 0 → FirstMet xs n p) → (b : Bool) → x.met ≡ b → (if b then refused x.number x.place 0 else first xs) ≡ refused n p 0 → FirstMet (x ∷ xs) n p
    go after true met e =
        record {
          before = [];
          after = xs;
          there = λ i. record { number = number_of (e i); place = place_of (e i); met = met i } ∷ xs;
          none_before = λ r m. absurd (Memᴰ.not-nil m);
        }
    go after false met e =
        let f = after e in
        record {
          before = x ∷ f.before;
          after = f.after;
          there = ap (λ l. x ∷ l) f.there;
          none_before = ◌and◌ {C = λ r. r.met ≡ false} met f.none_before;
        }

-- it stands in the table
pub met_stands : (xs : List Row) (n p : ℕ) → FirstMet xs n p → Memᴰ (n at p when true) xs
met_stands xs n p f = subst (Memᴰ (n at p when true)) (sym f.there) (Memᴰ.append_right f.before (Memᴰ.head refl))

pub first_refused : (xs : List Row) (n p : ℕ) → FirstMet xs n p → first xs ≡ refused n p 0
unfolding first
first_refused xs n p f = ap first f.there ∙ passed_append f.before ((n at p when true) ∷ f.after) ((first_clear f.before).1 f.none_before)

-- the table of a sheet
pub refused_iff : (strict : Bool) (E : Edition) (s : List ℕ) (n p : ℕ) → (checked_by strict E s ≡ refused n p 0) ↔ FirstMet (rows strict E s) n p
unfolding checked_by
refused_iff strict E s n p = (first_met (rows strict E s) n p, first_refused (rows strict E s) n p)
