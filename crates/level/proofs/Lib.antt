-- The laws of this crate that belong to no one function.
pub mod Computed
pub mod Examples
pub mod Gates
pub mod Join
