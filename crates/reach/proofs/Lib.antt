-- The laws of this crate that belong to no one function.
pub mod Matrix
pub mod Marks
pub mod Closing
pub mod Computed
pub mod Held
