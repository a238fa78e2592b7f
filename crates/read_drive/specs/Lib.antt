-- What the check of an event tells, and which nodes have begun.
pub mod Told
pub mod Begun
