-- The laws of this crate that belong to no one function.
pub mod Group
pub mod Filled
pub mod Appending
pub mod Ranking
pub mod Working
