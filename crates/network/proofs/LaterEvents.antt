-- Events at or past the horizon have no effect: sheets that differ in these alone have the same cells below it, and run alike. Assumes nothing.
use lib.Dec.{eqb, ltb}
use borrow.Author.Tests.{ltb-false, ne_eqb}
use mathlib.Core.Bool.{Bool, true, false, ◌&&◌}
use mathlib.Core.List.{List, [], ◌∷◌}
use mathlib.Core.Path.{◌≡◌, refl, sym, ap, ◌∙◌, subst}
use native.Mathlib.Omega.{arith}
use Prim.Native.Nat.{ℕ, zero, suc, ◌<◌}
use Rattle.std.specs.Prelude.{if◌then◌else◌}
use Rattle.sheet.specs.declared.Edition.{Edition}
use Rattle.sheet.specs.declared.Event.{Event}
use Rattle.sheet.specs.Layout.{sheet_of}
use Rattle.sheet.specs.Outcome.{finished}
use Rattle.sheet.specs.Refusal.{checked}
use Rattle.sheet.specs.Sheet.{Sheet}
use Rattle.format.specs.Accepted.{Accepted, Known}
use Rattle.network.specs.LaterEvents.{events_below, SameBelow}
use Rattle.network.specs.Run.{cells_of, is_horizon_outside, ran, ran_sheet, written_of}
use Rattle.network.specs.Satisfied.{Satisfied}
use Rattle.network.specs.Timeline.{Cells, given, drive_cell}
use Rattle.format.proofs.Accepted.{accepted}
use Rattle.network.proofs.Runs.{own_cells, ran-outside, ran_satisfied, ran_sheet_lem}

module _ (horizon v : ℕ) where
  given_below : (t before : ℕ) → t < horizon → (es : List Event) → given es v t before ≡ given (events_below horizon es) v t before
  unfolding given events_below
  given_below t before h [] = refl
  given_below t before h (e ∷ es) = go (ltb e.tick horizon) refl (given_below t before h es)
    where
      go : (b : Bool) → ltb e.tick horizon ≡ b → given es v t before ≡ given (events_below horizon es) v t before
          → (if eqb e.tick t && eqb e.node v then e.value else given es v t before)
          ≡ given (if b then e ∷ events_below horizon es else events_below horizon es) v t before
      go true i rest = ap (λ x. if eqb e.tick t && eqb e.node v then e.value else x) rest
      go false i rest = rw (ne_eqb e.tick t (λ k. omega (arith, h, k, ltb-false e.tick horizon i))) rest

  cell_below : (drive : List Event) (t : ℕ) → t < horizon → drive_cell drive v t ≡ drive_cell (events_below horizon drive) v t
  unfolding drive_cell
  cell_below drive zero h = given_below zero _ h drive
  cell_below drive (suc t) h =
      given_below (suc t) (drive_cell drive v t) h drive
      ∙ ap (given (events_below horizon drive) v (suc t)) (cell_below drive t (omega (arith, h)))

-- the sheet with another drive
abbrev driven : Sheet → List Event → Sheet
driven S drive = record { nodes = S.nodes; modules = S.modules; drive = drive; watched = S.watched }

module _ (S : Sheet) (drive : List Event) (horizon : ℕ) (same : events_below horizon drive ≡ events_below horizon S.drive) where
  still_satisfied : (c : Cells) → Satisfied S horizon c → Satisfied (driven S drive) horizon c
  still_satisfied c sat =
      record {
        inputs = λ t v h i.
            sat.inputs t v h i ∙ cell_below horizon v S.drive t h ∙ ap (λ es. drive_cell es v t) (sym same) ∙ sym (cell_below horizon v drive t h);
        driven = sat.driven;
      }

  run_alike : Accepted S → Accepted (driven S drive) → (bytes : ℕ) → ran_sheet (driven S drive) horizon bytes ≡ ran_sheet S horizon bytes
  unfolding written_of
  run_alike acc acc' bytes =
      ran_satisfied (driven S drive) acc' horizon (cells_of S horizon) (still_satisfied (cells_of S horizon) (own_cells S acc horizon)) bytes

pub no_effect : {E : Edition} → Known E → (s p : List ℕ) → checked E s ≡ finished 0 → checked E p ≡ finished 0 → (horizon : ℕ)
    → SameBelow horizon (sheet_of E s) (sheet_of E p) → (bytes : ℕ) → ran E p horizon bytes ≡ ran E s horizon bytes
no_effect {E} known s p c d horizon same bytes = by (is_horizon_outside horizon) refl
  where
    S : Sheet
    S = sheet_of E s

    is_driven : sheet_of E p ≡ driven S (sheet_of E p).drive
    is_driven = λ i. record { nodes = same.nodes i; modules = same.modules i; drive = (sheet_of E p).drive; watched = same.watched i }

    alike : ran_sheet (sheet_of E p) horizon bytes ≡ ran_sheet S horizon bytes
    alike =
        ap (λ P. ran_sheet P horizon bytes) is_driven
        ∙ run_alike S (sheet_of E p).drive horizon same.drive (accepted E known s c).sheet (subst Accepted is_driven (accepted E known p d).sheet) bytes

    by : (b : Bool) → is_horizon_outside horizon ≡ b → ran E p horizon bytes ≡ ran E s horizon bytes
    by true out = ran-outside E p horizon bytes out ∙ sym (ran-outside E s horizon bytes out)
    by false range = ran_sheet_lem E p horizon bytes range d ∙ alike ∙ sym (ran_sheet_lem E s horizon bytes range c)
