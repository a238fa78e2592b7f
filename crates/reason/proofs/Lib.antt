-- The laws of this crate that belong to no one function.
pub mod Listed
pub mod Apart
pub mod SameNumber
pub mod Longest
pub mod OneLine
