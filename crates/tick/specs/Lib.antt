-- What the passes of a tick work on, rest on and leave.
pub mod Rows
pub mod Rest
pub mod Tally
pub mod Tick
