-- The key by which a drive rises is the order by tick and then by node, nodes being below 256. Assumes nothing.
use mathlib.Core.Logic.{◌↔◌, inl, inr}
use native.Mathlib.Decide.{dec_lt}
use native.Mathlib.Omega.{arith}
use Prim.Native.Nat.{ℕ, ◌<◌}
use Rattle.sheet.specs.declared.Event.{Event}
use Rattle.sheet.specs.Sheet.{Sheet, event_count, event_of}
use Rattle.sheet.specs.Refusal.{key}
use Rattle.format.specs.Accepted.{Before, Accepted}

pub key_order : (a b : Event) → a.node < 256 → b.node < 256 → (key a < key b) ↔ Before a b
key_order a b h l = (λ k. by_tick k (dec_lt a.tick b.tick), by_key)
  where
    by_tick : key a < key b → Dec (a.tick < b.tick) → Before a b
    by_tick k (yes t) = inl t
    by_tick k (no t) = inr (omega arith, omega arith)

    by_key : Before a b → key a < key b
    by_key (inl t) = omega arith
    by_key (inr t) = omega arith

-- the drive of an accepted sheet
pub drive_order : (S : Sheet) → Accepted S → (a b : ℕ) → a < b → b < event_count S → Before (event_of S a) (event_of S b)
drive_order S acc a b h l = (key_order (event_of S a) (event_of S b) (small a (omega arith)) (small b l)).0 (acc.drive_rises a b h l)
  where
    small : (e : ℕ) → e < event_count S → (event_of S e).node < 256
    small e i = omega (arith, (acc.sound_events e i).node.node, acc.nodes)
