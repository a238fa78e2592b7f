-- The laws of this crate that belong to no one function.
pub mod FreshLists
pub mod LastRecords
pub mod CellEnds
pub mod Buffer
pub mod Holding
pub mod Quiet
pub mod ReadBack
