-- Draws, and the drive that is drawn from them.
pub mod Draw
pub mod Drive
