-- The laws of draws and of the drawn drive, and first draws.
pub mod Computed
pub mod Draws
pub mod Drive
pub mod Steps
