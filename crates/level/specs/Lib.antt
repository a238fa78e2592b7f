-- Values and gates, as document 01 states them.
pub mod Level
pub mod Gate
pub mod Join
pub mod Rule
pub mod Kind
pub mod Table
pub mod Examples
