-- The theorems of conversion, and its examples.
pub mod Computed
pub mod Record
pub mod Written
pub mod Length
pub mod Making
pub mod Answers
pub mod Theorems
