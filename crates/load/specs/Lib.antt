-- What loading leaves.
pub mod First
