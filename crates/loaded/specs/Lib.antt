-- A sheet whose drive is drawn.
pub mod Loaded
pub mod Loading
pub mod Examples
