-- The theorems of loading, and its examples.
pub mod Computed
pub mod Inputs
pub mod Found
pub mod WithDrive
pub mod Written
pub mod Length
pub mod Making
pub mod Answers
pub mod Theorems
