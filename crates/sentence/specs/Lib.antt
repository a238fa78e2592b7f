-- An answer as a sentence.
pub mod Sentence
pub mod Describing
pub mod Examples
