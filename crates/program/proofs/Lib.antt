-- What is printed, by the records of the run.
pub mod Lines
pub mod Whole
