-- Reading a section: its count is read, then its records one by one, which fill an array until a row is met. One law for all sections but the modules'. Assumes nothing.
use mathlib.Core.List.{List, [], ◌∷◌, ◌++◌, append_assoc}
use mathlib.Core.Path.{◌≡◌, sym, ◌∙◌}
use Prim.Native.Nat.{ℕ, suc, ◌+◌, ◌-◌, ◌<◌, ◌≤◌}
use native.Mathlib.Numerals.{add-one}
use native.Mathlib.Omega.{arith}
use lib.ListN.{set, replicate}
use lib.Seq.{set_at}
use Rattle.sheet.specs.declared.contents.Section.{Section}
use Rattle.sheet.specs.declared.refusal.Refusal.{Refusal}
use Rattle.sheet.specs.Contents.{filled}
use Rattle.sheet.specs.Enumerate.{each, listed}
use Rattle.sheet.specs.Outcome.{finished}
use Rattle.sheet.specs.Refusal.{Row, first}
use Rattle.sheet.specs.Sections.{SectionRead}
use Rattle.sheet.specs.Told.{as_refused}
use Rattle.sheet.proofs.Listed.{length-listed}
use Rattle.sheet.proofs.Rows.{passed_append, none_yet, passed_each}
use Rattle.sheet.proofs.Told.{stopped_each}

-- The count is read, after its rows, and k records: none of their rows is met, and they stand in the array.
pub record Reading {A : Type 0} (counts : List Row) (rows : ℕ → List Row) (most : ℕ) (blank : A) (n : ℕ) (stands : ℕ → A) (count k : ℕ) (records : List A) : Type 0 where
  pub count_clear : first counts ≡ finished 0
  pub counted : count ≡ n
  pub few : count ≤ most
  pub clear : first (each k rows) ≡ finished 0
  pub held : records ≡ filled most blank (listed k stands)

module _ {A : Type 0} {counts : List Row} {rows : ℕ → List Row} {most : ℕ} {blank : A} {n : ℕ} {stands : ℕ → A} {count : ℕ} where
  pub begun : (first counts ≡ finished 0) × ((count ≡ n) × (count ≤ most)) → Reading counts rows most blank n stands count 0 (replicate most blank)
  unfolding each
  begun told = let e : most - 0 ≡ most = omega arith in record { count_clear = told.0; counted = told.1.0; few = told.1.1; clear = none_yet rows; held = rw e }

  module _ {k : ℕ} {records : List A} (before : Reading counts rows most blank n stands count k records) where
    -- one record more takes the place of the first blank
    pub one_more : {x : A} → k < count → first (rows k) ≡ finished 0 → x ≡ stands k → Reading counts rows most blank n stands count (k + 1) (set records k x)
    unfolding each
    one_more h clear is =
        let room : most - k ≡ suc (most - suc k) = omega arith in
        record {
          count_clear = before.count_clear;
          counted = before.counted;
          few = before.few;
          clear = passed_each rows k before.clear clear;
          held = rw (before.held, is, length-listed k stands, room)
              (set_at (listed k stands) blank (replicate (most - suc k) blank) (stands k) k (length-listed k stands)
              ∙ sym (rw (add-one k, length-listed (suc k) stands) (append_assoc (listed k stands) (stands k ∷ []) (replicate (most - suc k) blank))));
        }

    -- the next record is refused
    pub stopped_at : (r : Refusal) → k < count → first (rows k) ≡ as_refused r → first (counts ++ each n rows) ≡ as_refused r
    stopped_at r h met = passed_append counts (each n rows) before.count_clear ∙ stopped_each r rows k n (omega arith) before.clear met

    -- all records are passed
    module _ (h : count ≤ k) (g : k ≤ count) where
      all : k ≡ n
      all = omega arith

      pub all_passed : first (counts ++ each n rows) ≡ finished 0
      all_passed = passed_append counts (each n rows) before.count_clear ∙ rw all at before.clear

      pub all_held : (r : Section A most) → r.count ≡ count → r.records ≡ records → SectionRead blank n stands r
      all_held r counted is = record { counted = counted ∙ before.counted; held = is ∙ rw all at before.held }
