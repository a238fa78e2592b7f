-- The laws of this crate that belong to no one function.
pub mod Putting
pub mod Digits
pub mod ReadBack
pub mod Shown
pub mod Examples
