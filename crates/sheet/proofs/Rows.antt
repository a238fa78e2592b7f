-- What holds of every row of the refusals' table, and what its first row met comes to, over rows in a row and over records. Assumes nothing.
use mathlib.Core.Bool.{Bool, true, false}
use mathlib.Core.List.Memᴰ
use mathlib.Core.List.{List, [], ◌∷◌, ◌++◌, Memᴰ}
use mathlib.Core.Logic.{◌↔◌, ◌⊎◌, inl, inr, ⊎_elim}
use mathlib.Core.Path.{◌≡◌, refl, sym, ap, ◌∙◌, subst}
use Prim.Native.Nat.{ℕ, zero, suc, ◌+◌, ◌<◌, ◌≤◌}
use native.Mathlib.Decide.{ℕ_discrete}
use native.Mathlib.Nat.{not-suc-le-zero}
use native.Mathlib.Numerals.{add-one}
use native.Mathlib.Omega.{arith}
use Rattle.std.specs.Prelude.{if◌then◌else◌}
use Rattle.sheet.specs.Enumerate.{each}
use Rattle.sheet.specs.Outcome.{finished, refused, or_else}
use Rattle.sheet.specs.Refusal.{Row, first}
use Rattle.sheet.proofs.Each.{each-mem}

-- What holds of every row.
abbrev pub All : (Row → Type 0) → List Row → Type 0
All C xs = (r : Row) → Memᴰ r xs → C r

pub all_nil : (C : Row → Type 0) → All C []
all_nil C r m = absurd (Memᴰ.not-nil m)

infixr 20 ◌and◌
pub ◌and◌ : {C : Row → Type 0} {r : Row} {xs : List Row} → C r → All C xs → All C (r ∷ xs)
◌and◌ {C} c after x (Memᴰ.head e) = subst C (sym e) c
◌and◌ c after x (Memᴰ.tail m) = after x m

infixl 15 ◌then◌
pub ◌then◌ : {C : Row → Type 0} {xs ys : List Row} → All C xs → All C ys → All C (xs ++ ys)
◌then◌ {xs} c d r m = ⊎_elim (c r) (d r) (Memᴰ.append_cases xs m)

pub all_each : {C : Row → Type 0} (n : ℕ) (f : ℕ → List Row) → ((i : ℕ) → i < n → All C (f i)) → All C (each n f)
all_each n f c r m = let h = (each-mem n f).0 m in c h.0 h.1 r h.2

-- rows that are there under a condition alone
pub all_where : {C : Row → Type 0} (b : Bool) (xs : List Row) → (b ≡ true → All C xs) → All C (if b then xs else [])
all_where {C} true xs c = c refl
all_where {C} false xs c = all_nil C

-- no row is met
abbrev pub Clear : List Row → Type 0
Clear xs = All (λ r. r.met ≡ false) xs

pub finished≢refused : {n p c k : ℕ} → finished k ≡ refused n p c → ⊥
finished≢refused e = let z : ◌≡◌ {A = ℕ} 0 1 = cc in omega arith

-- the first row met is none exactly when no row is
pub first_clear : (xs : List Row) → (first xs ≡ finished 0) ↔ Clear xs
unfolding first
first_clear [] = (λ e r m. absurd (Memᴰ.not-nil m), λ c. refl)
first_clear (x ∷ xs) = (passed (first_clear xs).0 x.met refl, λ c. rw (c x (Memᴰ.head refl)) ((first_clear xs).1 (λ r m. c r (Memᴰ.tail m))))
  where
    passed : (first xs ≡ finished 0 → Clear xs) → (b : Bool) → x.met ≡ b → (if b then refused x.number x.place 0 else first xs) ≡ finished 0 → Clear (x ∷ xs)
    passed after true met e = absurd (finished≢refused (sym e))
    passed after false met e = ◌and◌ {C = λ r. r.met ≡ false} met (after e)

-- the answer is a finished run of no record, or a refusal of count 0
pub first_answers : (xs : List Row) → (first xs ≡ finished 0) ⊎ ((n : ℕ) × (p : ℕ) × (first xs ≡ refused n p 0))
unfolding first
first_answers [] = inl refl
first_answers (x ∷ xs) = go x.met (first_answers xs)
  where
    go : (b : Bool) → (first xs ≡ finished 0) ⊎ ((n : ℕ) × (p : ℕ) × (first xs ≡ refused n p 0)) → ((if b then refused x.number x.place 0 else first xs) ≡ finished 0) ⊎ ((n : ℕ) × (p : ℕ) × ((if b then refused x.number x.place 0 else first xs) ≡ refused n p 0))
    go true after = inr (x.number, x.place, refl)
    go false after = after

-- without a refusal the count is 0
pub count_0 : (xs : List Row) (n : ℕ) → first xs ≡ finished n → first xs ≡ finished 0
count_0 xs n h = ⊎_elim (λ e. e) (λ r. absurd (finished≢refused (sym h ∙ r.2))) (first_answers xs)

first-append : (xs ys : List Row) → first (xs ++ ys) ≡ or_else (first xs) (first ys)
unfolding first
first-append [] ys = refl
first-append (r ∷ rs) ys = go r.met (first-append rs ys)
  where
    go : (b : Bool) → first (rs ++ ys) ≡ or_else (first rs) (first ys)
        → (if b then refused r.number r.place 0 else first (rs ++ ys))
        ≡ or_else (if b then refused r.number r.place 0 else first rs) (first ys)
    go true h = refl
    go false h = h

pub passed_append : (xs ys : List Row) → first xs ≡ finished 0 → first (xs ++ ys) ≡ first ys
passed_append xs ys h = first-append xs ys ∙ ap (λ o. or_else o (first ys)) h

pub refused_append : {n p k : ℕ} (xs ys : List Row) → first xs ≡ refused n p k → first (xs ++ ys) ≡ refused n p k
refused_append xs ys h = first-append xs ys ∙ ap (λ o. or_else o (first ys)) h

-- where rows in a row are passed, so is each part
pub both_passed : (xs ys : List Row) → first (xs ++ ys) ≡ finished 0 → (first xs ≡ finished 0) × (first ys ≡ finished 0)
both_passed xs ys h =
    let clear = (first_clear (xs ++ ys)).0 h in
    ((first_clear xs).1 (λ r m. clear r (Memᴰ.append_left ys m)), (first_clear ys).1 (λ r m. clear r (Memᴰ.append_right xs m)))

-- the same over records, each with its rows
module _ (f : ℕ → List Row) where
  pub none_yet : first (each 0 f) ≡ finished 0
  unfolding each first
  none_yet = refl

  pub all_passed : (i n : ℕ) → i ≤ n → n ≤ i → first (each i f) ≡ finished 0 → finished 0 ≡ first (each n f)
  all_passed i n h g c = let e : i ≡ n = omega arith in sym c ∙ ap (λ k. first (each k f)) e

  pub passed_each : (i : ℕ) → first (each i f) ≡ finished 0 → first (f i) ≡ finished 0 → first (each (i + 1) f) ≡ finished 0
  unfolding each
  passed_each i h g = rw add-one (passed_append (each i f) (f i) h ∙ g)

  -- the first of them that is refused
  pub refused_each : {m p q : ℕ} (i n : ℕ) → i < n → first (each i f) ≡ finished 0 → first (f i) ≡ refused m p q → first (each n f) ≡ refused m p q
  unfolding each
  refused_each i zero h c g = absurd (not-suc-le-zero h)
  refused_each {m} {p} {q} i (suc n) h c g = go (ℕ_discrete i n) (λ l. refused_each i n l c g)
    where
      go : Dec (i ≡ n) → (i < n → first (each n f) ≡ refused m p q) → first (each n f ++ f n) ≡ refused m p q
      go (yes e) before = rw (← e) (passed_append (each i f) (f i) c ∙ g)
      go (no ne) before = refused_append (each n f) (f n) (before (omega arith))
