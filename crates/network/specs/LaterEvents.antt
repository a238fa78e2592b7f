-- Document 01, "Modules": events at or past the horizon are read and have no effect. What two sheets are that differ in such events alone.
use Rattle.std.specs.Prelude.{List, [], ◌∷◌, ◌≡◌, ℕ, ltb, if◌then◌else◌}
use Rattle.sheet.specs.declared.Event.{Event}
use Rattle.sheet.specs.Sheet.{Sheet}

-- the events with a tick below the horizon
unfoldable pub events_below : ℕ → List Event → List Event
events_below horizon [] = []
events_below horizon (e ∷ es) = if ltb e.tick horizon then e ∷ events_below horizon es else events_below horizon es

-- the same nodes, modules and watched nodes, and the same events below the horizon
pub record SameBelow (horizon : ℕ) (S P : Sheet) : Type 0 where
  pub nodes : P.nodes ≡ S.nodes
  pub modules : P.modules ≡ S.modules
  pub drive : events_below horizon P.drive ≡ events_below horizon S.drive
  pub watched : P.watched ≡ S.watched
