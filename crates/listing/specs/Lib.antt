-- The listing's records in its bytes, the ends that they get, and the listing's part of a tick.
pub mod Record
pub mod Ends
pub mod Step
