-- The laws of this crate that belong to no one function.
pub mod Rows
pub mod Parts
pub mod Rules
pub mod Values
pub mod Drive
pub mod Passes
pub mod Tally
pub mod Giving
pub mod Given
pub mod Worked
