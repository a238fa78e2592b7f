-- What listing a tick's records comes to: 19 before any is written, 20 after they are, or on to the next tick.
use Rattle.std.specs.Prelude.{List, ◌++◌, ◌≡◌, ℕ, ◌+◌, ◌<◌, ◌≤◌, length, Result, Ok, Err}
use Rattle.sheet.specs.Limits.{pending_limit, most_nodes}
use Rattle.network.specs.Listing.{Record}
use Rattle.network.specs.Buffer.{room}
use Rattle.model.specs.Fresh.{fresh, show_all}
use Rattle.listing.specs.Ends.{Holding}
use Rattle.listing.specs.declared.Listing.{Listing}
use Rattle.listing.specs.declared.Stop.{Stop}
use Rattle.listing.specs.declared.Stop.TheVariants.{Full, Crowded}

-- Into a buffer records were written before tick t, and the listing is as that left it.
module _ (buffer : List ℕ) (records : List Record) (listing : Listing) (t : ℕ) (watched values : List ℕ) where
  -- the records of the tick
  abbrev pub these : List Record
  these = fresh t values listing.values watched

  -- they are written and shown
  pub record RecordsWritten (listing' : Listing) : Type 0 where
    pub holding : Holding buffer (records ++ these) listing'
    pub now_shown : listing'.values ≡ show_all values listing.values watched
    pub shown_size : length listing'.values ≡ most_nodes

  -- 19: no room, and nothing written or shown
  pub record NoRoom (listing' : Listing) : Type 0 where
    pub over : room (length buffer) < length records + length these
    pub untouched : listing' ≡ listing

  -- so many changes are pending after the tick
  abbrev pub StepOf : ℕ → Result (Unit {0}) Stop → Listing → Type 0
  StepOf pending (Err Full) listing' = NoRoom listing'
  StepOf pending (Err Crowded) listing' =
      (length records + length these ≤ room (length buffer))
      × (pending_limit < pending)
      × RecordsWritten listing'
  StepOf pending (Ok _) listing' =
      (length records + length these ≤ room (length buffer))
      × (pending ≤ pending_limit)
      × RecordsWritten listing'
