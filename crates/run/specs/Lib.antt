-- What the ticks of a run rest on.
pub mod Ready
