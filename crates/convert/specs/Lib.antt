-- A sheet of one edition in the other.
pub mod Converted
pub mod Conversion
pub mod Examples
