-- The laws of this crate that belong to no one function.
pub mod Computed
pub mod Tests
pub mod Each
pub mod Chosen
pub mod Grouped
pub mod Listed
pub mod Parts
pub mod Held
pub mod Rows
pub mod Told
pub mod Read
