-- What is printed of a run.
pub mod Printing
pub mod Examples
