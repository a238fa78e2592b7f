-- What is wrong, in words.
pub mod Phrases
pub mod Reason
