-- What a run's ticks rest on when they begin: an accepted sheet is loaded.
use Rattle.std.specs.Prelude.{List, ◌≡◌, ℕ, ◌<◌, replicate, None}
use Rattle.sheet.specs.Limits.{most_nodes}
use Rattle.sheet.specs.Sheet.{Sheet}
use Rattle.sheet.specs.WorkingOrder.{in_working_order}
use Rattle.format.specs.Accepted.{Accepted}
use Rattle.model.specs.State.{State, delayed_count}
use Rattle.model.specs.Ticks.{Begun}
use Rattle.pending.specs.Kept.{arrangement}
use Rattle.tick.specs.declared.fixed.Network.{Network}
use Rattle.tick.specs.declared.carried.Carried.{Carried}
use Rattle.tick.specs.Rows.{modules_in, starts_in}
use Rattle.tick.specs.Tally.{given_in}
use Rattle.tick.specs.Tick.{TalliedIn}
use Rattle.listing.specs.declared.Listing.{Listing}

-- the model's state, in what is carried and the values shown last
abbrev pub kept : Network → Carried → Listing → State arrangement
kept network carried listing =
    record {
      values = carried.present.values;
      given = given_in network.rows.now carried.present.values carried.present.kept;
      last = carried.ahead.last;
      shown = listing.values;
      starts = starts_in network.rows.now;
      pending = carried.ahead.pending.kept;
    }

pub record Ready (S : Sheet) (network : Network) (carried : Carried) (watched : List ℕ) (listing : Listing) : Type 0 where
  pub accepted : Accepted S
  pub some_tick : 0 < network.horizon
  pub modules : modules_in network.rows.now ≡ in_working_order S
  pub delayed : network.delayed ≡ delayed_count S
  pub drive : network.drive.now ≡ S.drive
  pub watched_there : watched ≡ S.watched
  pub begun : Begun arrangement S (kept network carried listing)
  pub first_event : carried.next ≡ 0
  pub tallied : TalliedIn network carried.present
  pub none_written : listing.written ≡ 0
  pub none_placed : listing.places ≡ replicate most_nodes None
