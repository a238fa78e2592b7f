-- The pending changes kept as a list, in the order in which they were put: what keeps them can meet its laws, and so the model computes: document 01's worked run. Assumes nothing.
use lib.Dec.{eqb}
use lib.ListN.{length}
use mathlib.Core.Bool.{not}
use mathlib.Core.List.Memᴰ
use mathlib.Core.List.{List, [], ◌∷◌, ◌++◌, Memᴰ}
use mathlib.Core.Logic.{◌↔◌}
use mathlib.Core.Path.{◌≡◌, refl, ap, ◌∙◌, subst}
use Prim.Native.Nat.{ℕ}
use Rattle.sheet.proofs.Tests.{tells_eq, tells_not}
use Rattle.sheet.specs.Enumerate.{each}
use Rattle.sheet.specs.Layout.{first_edition, sheet_of}
use Rattle.sheet.specs.WorkingOrder.{working_order}
use Rattle.network.specs.Examples.{worked_sheet}
use Rattle.network.specs.Listing.{Record}
use Rattle.model.specs.Change.{Change, not_due}
use Rattle.model.specs.Store.{Store}
use Rattle.model.specs.Drive.{events_below, driven}
use Rattle.model.specs.Passes.{give_all, settle, schedule}
use Rattle.model.specs.Fresh.{fresh, show_all}
use Rattle.model.specs.State.{State, delayed_below}
use Rattle.model.specs.Ticks.{state_at, records_below}
use Rattle.model.proofs.NotDue.{passing, passing_mem, passing_all, passes_not_due}

abbrev pub due_in : List Change → ℕ → List Change
due_in l t = passing (λ x. eqb x.due t) l

pub due_mem : (l : List Change) (t : ℕ) (x : Change) → Memᴰ x (due_in l t) ↔ (Memᴰ x l × (x.due ≡ t))
due_mem l t x =
    let mem = passing_mem (λ x. eqb x.due t) l in
    (λ m. let (i, p) = mem.0 m in (i, (tells_eq x.due t).0 p), λ (i, d). mem.1 (i, (tells_eq x.due t).1 d))

pub none_due : (l : List Change) (t : ℕ) → due_in l t ≡ [] → not_due t l ≡ l
none_due l t none =
    passes_not_due t l
    ∙ passing_all (λ x. not (eqb x.due t)) l
    (λ x m. (tells_not (eqb x.due t) (tells_eq x.due t)).1 (λ d. Memᴰ.not-nil (subst (Memᴰ x) none ((due_mem l t x).1 (m, d)))))

abbrev pub list_store : Store
list_store =
    record {
      Kept = List Change;
      Holds = λ kept held. kept ≡ held;
      nothing = [];
      put = λ kept x. kept ++ x ∷ [];
      due = due_in;
      rest = λ kept t. not_due t kept;
      count = length;
      holds_nothing = refl;
      holds_put = λ kept held t x e fits. ap (λ l. l ++ x ∷ []) e;
      tells_due = λ kept held t e x. rw (← e) (due_mem kept t x);
      holds_rest = λ kept held t e. ap (not_due t) e;
      rest_same = λ kept held t e none. none_due kept t none;
      counts = λ kept held e. ap length e;
    }

abbrev start : State list_store
start = record { values = 2 ∷ 2 ∷ []; given = 2 ∷ []; last = 2 ∷ []; shown = 255 ∷ 255 ∷ []; starts = 56 ∷ []; pending = [] }

abbrev listed_at : ℕ → ℕ → ℕ → Record
listed_at t v x = record { tick = t; node = v; value = x }

pub worked_run : records_below list_store (sheet_of first_edition worked_sheet) 12 start 12 ≡ listed_at 0 0 0 ∷ listed_at 0 1 2 ∷ listed_at 3 1 1 ∷ listed_at 5 0 1 ∷ listed_at 8 1 0 ∷ listed_at 11 1 1 ∷ []
unfolding sheet_of each working_order events_below driven not_due passing give_all settle schedule fresh show_all delayed_below state_at records_below
worked_run = refl

-- where the table of its one module begins, a NAND, is kept
pub worked_starts : (state_at list_store (sheet_of first_edition worked_sheet) 12 start 12).starts ≡ 56 ∷ []
unfolding state_at
worked_starts = refl
