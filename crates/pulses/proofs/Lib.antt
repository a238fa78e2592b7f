-- The short pulses by cells, by records and by bytes; the theorems of the report, and its examples.
pub mod Length
pub mod Records
pub mod Exact
pub mod Renumbered
pub mod Making
pub mod Answers
pub mod Theorems
pub mod Computed
