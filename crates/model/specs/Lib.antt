-- The run as plain functions on lists: what is kept, and what one tick makes of it.
pub mod Change
pub mod Store
pub mod Drive
pub mod Passes
pub mod Starts
pub mod Fresh
pub mod State
pub mod Ticks
pub mod Standing
