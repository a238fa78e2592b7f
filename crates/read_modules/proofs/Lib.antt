-- The laws of this crate that belong to no one function.
pub mod Wiring
pub mod ModuleRows
pub mod StartRows
