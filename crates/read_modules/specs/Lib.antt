-- What the modules' section says of one record and of one node's byte, and what reading the section gives.
pub mod Record
pub mod Read
