-- What a refusal that is met says of rows in a row: it stands for all that begin so, and rows that are passed give way to the next. Assumes nothing.
use mathlib.Core.List.{List, ◌++◌}
use mathlib.Core.Path.{◌≡◌, refl, sym, ◌∙◌}
use Prim.Native.Nat.{ℕ, ◌<◌}
use Rattle.std.specs.Prelude.{Result, Ok, Err}
use Rattle.sheet.specs.declared.refusal.Refusal.{Refusal}
use Rattle.sheet.specs.declared.refusal.Refusal.TheVariants.{HorizonOutside, BytesEnd, CountOutside, NodeByte, Kind, Parameter, Wiring, Delay, NodeUse}
use Rattle.sheet.specs.declared.refusal.Refusal.TheVariants.{EventTick, EventNode, EventValue, EventOrder, NotBegun, Watched, BytesLeft, Loop}
use Rattle.sheet.specs.declared.refusal.Refusal.TheVariants.{ListingFull, TooManyPending, TextShort, KindNotInFirst, OutputShort, WidthOutside}
use Rattle.sheet.specs.declared.refusal.Refusal.TheVariants.{ReportShort, DrawnTooMany}
use Rattle.sheet.specs.Enumerate.{each}
use Rattle.sheet.specs.Outcome.{finished, refused}
use Rattle.sheet.specs.Refusal.{Row, first}
use Rattle.sheet.specs.Told.{as_refused, Told}
use Rattle.sheet.proofs.Rows.{passed_append, refused_append, refused_each, finished≢refused}

-- a refusal has a number, a place and a count
pub is_refused : (r : Refusal) → (n : ℕ) × (p : ℕ) × (c : ℕ) × (as_refused r ≡ refused n p c)
is_refused HorizonOutside = (1, 0, 0, refl)
is_refused (BytesEnd p) = (2, p, 0, refl)
is_refused (CountOutside p) = (3, p, 0, refl)
is_refused (NodeByte p) = (4, p, 0, refl)
is_refused (Kind p) = (5, p, 0, refl)
is_refused (Parameter p) = (6, p, 0, refl)
is_refused (Wiring p) = (7, p, 0, refl)
is_refused (Delay p) = (8, p, 0, refl)
is_refused (NodeUse p) = (10, p, 0, refl)
is_refused (EventTick p) = (11, p, 0, refl)
is_refused (EventNode p) = (12, p, 0, refl)
is_refused (EventValue p) = (13, p, 0, refl)
is_refused (EventOrder p) = (14, p, 0, refl)
is_refused (NotBegun p) = (15, p, 0, refl)
is_refused (Watched p) = (16, p, 0, refl)
is_refused (BytesLeft p) = (17, p, 0, refl)
is_refused (Loop p) = (18, p, 0, refl)
is_refused (ListingFull p c) = (19, p, c, refl)
is_refused (TooManyPending p c) = (20, p, c, refl)
is_refused (TextShort p) = (21, p, 0, refl)
is_refused (KindNotInFirst p) = (22, p, 0, refl)
is_refused (OutputShort p) = (23, p, 0, refl)
is_refused WidthOutside = (24, 0, 0, refl)
is_refused (ReportShort p c) = (25, p, c, refl)
is_refused DrawnTooMany = (26, 0, 0, refl)

pub not_finished : {k : ℕ} (r : Refusal) → finished k ≡ as_refused r → ⊥
not_finished r e = let h = is_refused r in finished≢refused (e ∙ h.3)

pub stopped : (r : Refusal) (xs ys : List Row) → first xs ≡ as_refused r → first (xs ++ ys) ≡ as_refused r
stopped r xs ys e = let h = is_refused r in refused_append xs ys (e ∙ h.3) ∙ sym h.3

pub stopped_each : (r : Refusal) (f : ℕ → List Row) (i n : ℕ) → i < n → first (each i f) ≡ finished 0 → first (f i) ≡ as_refused r → first (each n f) ≡ as_refused r
stopped_each r f i n l c e = let h = is_refused r in refused_each f i n l c (e ∙ h.3) ∙ sym h.3

-- reading goes on past rows that are passed
pub told_after : {A : Type 0} (Known : A → Type 0) (xs ys : List Row) (r : Result A Refusal) → first xs ≡ finished 0 → Told ys Known r → Told (xs ++ ys) Known r
told_after Known xs ys (Ok a) c m = (passed_append xs ys c ∙ m.0, m.1)
told_after Known xs ys (Err e) c m = passed_append xs ys c ∙ m
