-- What is known of a sheet once it is read.
pub mod Read
