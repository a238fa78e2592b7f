-- The laws of this crate that belong to no one function.
pub mod Longest
pub mod OneLine
pub mod Different
pub mod Told
pub mod Examples
