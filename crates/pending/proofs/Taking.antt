-- The pass over the pending changes, one after the other: those due are taken, and the others move down. Assumes nothing.
use mathlib.Core.Bool.{Bool, true, false}
use mathlib.Core.List.Memᴰ
use mathlib.Core.List.{List, [], ◌∷◌, ◌++◌, append-nil, Memᴰ}
use mathlib.Core.Path.{◌≡◌, refl, sym, ap, ◌∙◌}
use Prim.Native.Nat.{ℕ, ◌+◌, ◌<◌, ◌≤◌}
use native.Mathlib.Numerals.{add-one}
use native.Mathlib.Omega.{arith}
use borrow.Author.Tests.{eq-eqb, ne_eqb}
use lib.Dec.{eqb}
use lib.ListN.{length, get_or, set, take, drop, length-set}
use lib.Seq.{take-suc, drop-cons, take-suc-set, take-set-lt, drop-set-lt, length-take-le, get_or-take}
use Rattle.std.specs.Prelude.{if◌then◌else◌}
use Rattle.sheet.proofs.Listed.{get_or-mem}
use Rattle.model.specs.Change.{Change}
use Rattle.pending.specs.declared.Scan.{Scan}
use Rattle.pending.specs.Flat.{unpacked, flat_due, flat_rest}
use Rattle.pending.specs.Taking.{from_start, Taking, OneTaken, OneKept}

abbrev scanned : ℕ → ℕ → ℕ → Scan
scanned kept at end = record { kept = kept; at = at; end = end }

-- before the first change
pub at_start : (t : ℕ) (held : List ℕ) → Taking held t [] held (from_start held)
unfolding flat_due flat_rest
at_start t held =
    record {
      within = record { kept = omega arith; at = omega arith; all = refl };
      counted = refl;
      takes = refl;
      stay = refl;
      ahead = refl;
    }

if_append : {A : Type 0} (b : Bool) (x y z : List A) → (if b then x ++ z else y ++ z) ≡ (if b then x else y) ++ z
if_append true x y z = refl
if_append false x y z = refl

-- one number more, at the end
module _ (t p : ℕ) where
  due_more : (k : List ℕ) → flat_due (k ++ p ∷ []) t ≡ flat_due k t ++ (if eqb (unpacked p).due t then unpacked p ∷ [] else [])
  unfolding flat_due
  due_more [] = refl
  due_more (q ∷ k) = rw (due_more k) (if_append (eqb (unpacked q).due t) (unpacked q ∷ flat_due k t) (flat_due k t) _)

  rest_more : (k : List ℕ) → flat_rest (k ++ p ∷ []) t ≡ flat_rest k t ++ (if eqb (unpacked p).due t then [] else p ∷ [])
  unfolding flat_rest
  rest_more [] = refl
  rest_more (q ∷ k) = rw (rest_more k) (if_append (eqb (unpacked q).due t) (flat_rest k t) (q ∷ flat_rest k t) _)

-- what is due among the numbers
due_mem : (t p : ℕ) {k : List ℕ} → Memᴰ p k → (unpacked p).due ≡ t → Memᴰ (unpacked p) (flat_due k t)
unfolding flat_due
due_mem t p (Memᴰ.head {x = q} {xs = k} i) e = rw (← i, eq-eqb (unpacked p).due t e) (Memᴰ.head refl)
due_mem t p (Memᴰ.tail {x = q} {xs = k} m) e = by (eqb (unpacked q).due t) (due_mem t p m e)
  where
    by : (b : Bool) → Memᴰ (unpacked p) (flat_due k t) → Memᴰ (unpacked p) (if b then unpacked q ∷ flat_due k t else flat_due k t)
    by true i = Memᴰ.tail i
    by false i = i

cons_head : {x y : ℕ} {k l : List ℕ} → x ∷ k ≡ y ∷ l → x ≡ y
cons_head e = cc

cons_tail : {x y : ℕ} {k l : List ℕ} → x ∷ k ≡ y ∷ l → k ≡ l
cons_tail e = cc

module _ {start : List ℕ} {t : ℕ} {taken : List Change} {held : List ℕ} {kept at end : ℕ} (w : Taking start t taken held (scanned kept at end)) where
  module _ (h : at < end) where
    abbrev here : ℕ
    here = get_or held at 0

    -- the number at `at` stands where it stood, and so do those behind it
    ahead : here ∷ drop (at + 1) held ≡ get_or start at 0 ∷ drop (at + 1) start
    ahead = rw add-one (sym (drop-cons held at 0 (omega arith)) ∙ (w.ahead ∙ drop-cons start at 0 (omega arith)))

    one_more : take (at + 1) start ≡ take at start ++ here ∷ []
    one_more = rw (add-one, cons_head ahead) (take-suc start at 0 (omega arith))

    pub due_passed : (unpacked here).due ≡ t
        → OneTaken start t taken held (scanned kept at end) (record { due = t; position = (unpacked here).position; value = (unpacked here).value }) (scanned kept (at + 1) end)
    due_passed e =
        record {
          position = omega arith;
          value = omega arith;
          due = Memᴰ.cast (ap (λ d. record { due = d; position = (unpacked here).position; value = (unpacked here).value }) (sym e)) (due_mem t here (Memᴰ.cast (cons_head ahead) (get_or-mem start at 0 (omega arith))) e);
          nearer = omega arith;
          taking =
              record {
                within = record { kept = omega arith; at = omega arith; all = w.within.all };
                counted = w.counted;
                takes = rw (one_more, due_more, eq-eqb (unpacked here).due t e, e, ← w.takes);
                stay = rw (one_more, rest_more, eq-eqb (unpacked here).due t e) (w.stay ∙ sym (append-nil _));
                ahead = cons_tail ahead;
              };
        }

    pub kept_passed : ((unpacked here).due ≡ t → ⊥) → OneKept start t taken (set held kept here) (scanned kept at end) (scanned (kept + 1) (at + 1) end)
    kept_passed e =
        record {
          nearer = omega arith;
          taking =
              record {
                within = record { kept = omega arith; at = omega arith; all = w.within.all ∙ sym (length-set held kept here) };
                counted = w.counted ∙ sym (length-set held kept here);
                takes = rw (one_more, due_more, ne_eqb (unpacked here).due t e) (w.takes ∙ sym (append-nil _));
                stay = rw (one_more, rest_more, ne_eqb (unpacked here).due t e, add-one, ← w.stay) (take-suc-set held kept here (omega arith));
                ahead = rw (drop-set-lt (at + 1) held kept here (omega arith)) (cons_tail ahead);
              };
        }

-- the numbers held are the first of an array
module _ (changes : List ℕ) (count : ℕ) {held : List ℕ} (v : held ≡ take count changes) (few : count ≤ length changes) {i : ℕ} (h : i < length held) where
  pub number_at : get_or changes i 0 ≡ get_or held i 0
  number_at = rw v (sym (get_or-take count changes i 0 (omega (arith, ap length v, length-take-le count changes few))))

  pub number_set : (x : ℕ) → take count (set changes i x) ≡ set held i x
  number_set x = rw v (take-set-lt count changes i x (omega (arith, ap length v, length-take-le count changes few)))
