-- What is refused before the output is looked at: what the sheet's own edition refuses, then a kind that the other lacks, and otherwise nothing.
-- Assumes nothing.
use borrow.Author.Tests.{lt-ltb, le-ltb, ltb-false}
use mathlib.Core.Bool.{false}
use mathlib.Core.List.Memᴰ
use mathlib.Core.List.{List}
use mathlib.Core.Path.{◌≡◌, refl, sym, ◌∙◌}
use Prim.Native.Nat.{ℕ, ◌<◌, ◌≤◌}
use Rattle.sheet.specs.declared.refusal.Refusal.{Refusal}
use Rattle.sheet.specs.declared.Edition.{Edition}
use Rattle.sheet.specs.Enumerate.{each}
use Rattle.sheet.specs.Layout.{modules_counted, module_place, module_at, sheet_of}
use Rattle.sheet.specs.Outcome.{finished, refused}
use Rattle.sheet.specs.Refusal.{Row, rows, first, checked_by, checked}
use Rattle.sheet.specs.Told.{as_refused}
use Rattle.sheet.proofs.Told.{is_refused}
use Rattle.sheet.proofs.Each.{each-mem}
use Rattle.sheet.proofs.Parts.{counts_modules, module_of_lem}
use Rattle.sheet.proofs.Rows.{all_nil, ◌and◌, all_each, first_clear, passed_append, refused_append, both_passed, refused_each}
use Rattle.format.specs.Accepted.{HasKinds}
use Rattle.format.specs.Made.{sheet_made}
use Rattle.convert.specs.Converted.{converted}
use Rattle.convert.proofs.Making.{not_begun}
use Rattle.convert.specs.Conversion.{kind_not_in_first, kind_rows, conversion_rows, Converts}

abbrev NotMet : Row → Type 0
NotMet r = r.met ≡ false

module _ (from to : Edition) (s : List ℕ) where
  -- what the sheet's own edition refuses stands
  pub own_refused : {n p k : ℕ} → checked from s ≡ refused n p k → first (conversion_rows from to s) ≡ refused n p k
  unfolding conversion_rows checked_by
  own_refused = refused_append (rows false from s) (each (modules_counted s) (kind_rows from to s))

  -- once it accepts the sheet, the kinds decide
  pub own_passed : checked from s ≡ finished 0 → first (conversion_rows from to s) ≡ first (each (modules_counted s) (kind_rows from to s))
  unfolding conversion_rows checked_by
  own_passed = passed_append (rows false from s) (each (modules_counted s) (kind_rows from to s))

  no_kind_above : (n : ℕ) → ((k : ℕ) → k < n → (module_at from s k).kind ≤ to.greatest) → first (each n (kind_rows from to s)) ≡ finished 0
  no_kind_above n below =
      (first_clear (each n (kind_rows from to s))).1
      (all_each {C = NotMet} n (kind_rows from to s) (λ k l. ◌and◌ {C = NotMet} (le-ltb to.greatest (module_at from s k).kind (below k l)) (all_nil NotMet)))

  -- the first record of a kind that the edition lacks
  pub kind_refused : checked from s ≡ finished 0 → (m : ℕ) → m < modules_counted s → to.greatest < (module_at from s m).kind
      → ((k : ℕ) → k < m → (module_at from s k).kind ≤ to.greatest) → first (conversion_rows from to s) ≡ refused kind_not_in_first (module_place from s m) 0
  unfolding first
  kind_refused ok m h above before =
      own_passed ok ∙ refused_each (kind_rows from to s) m (modules_counted s) h (no_kind_above m before) (rw (lt-ltb to.greatest (module_at from s m).kind above))

  -- an edition that has all kinds
  pub none_refused : checked from s ≡ finished 0 → HasKinds to (sheet_of from s) → first (conversion_rows from to s) ≡ finished 0
  none_refused ok kinds = own_passed ok ∙ no_kind_above (modules_counted s) (λ k l. rw (module_of_lem from s k l) at (kinds k (rw (counts_modules from s) l)))

  -- and conversely
  pub both_accepted : first (conversion_rows from to s) ≡ finished 0 → (checked from s ≡ finished 0) × HasKinds to (sheet_of from s)
  unfolding conversion_rows checked_by
  both_accepted e =
      let both = both_passed (rows false from s) (each (modules_counted s) (kind_rows from to s)) e in
      let clear = (first_clear (each (modules_counted s) (kind_rows from to s))).0 both.1 in (
        both.0,
        λ m h. let l : m < modules_counted s = rw (counts_modules from s) at h in
            rw (module_of_lem from s m l) (ltb-false to.greatest (module_at from s m).kind (clear _ ((each-mem (modules_counted s) (kind_rows from to s)).1 (m, l, Memᴰ.head refl)))),
      )

  -- a refusal of the check is the conversion's
  pub not_accepted : (output : List ℕ) (r : Refusal) → checked from s ≡ as_refused r → Converts from to s output (as_refused r) output
  not_accepted output r told = let h = is_refused r in not_begun (sheet_made (converted from to s)) output r (h.3 ∙ sym (own_refused (told ∙ h.3)))
