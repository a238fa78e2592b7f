-- Laws of the pass over the pending changes.
pub mod Taking
