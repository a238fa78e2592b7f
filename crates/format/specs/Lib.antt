-- What an accepted sheet is, how a sheet is written as bytes, and what a call that makes one leaves.
pub mod Accepted
pub mod Encode
pub mod Made
pub mod FirstMet
pub mod Condition
pub mod OneDriver
