-- The sheet, its bytes and what is refused in them, as document 01 states it.
pub mod Enumerate
pub mod Limits
pub mod Sheet
pub mod Wiring
pub mod Loop
pub mod Grouped
pub mod WorkingOrder
pub mod Bytes
pub mod Layout
pub mod Outcome
pub mod Range
pub mod Contents
pub mod Reading
pub mod Refusal
pub mod Told
pub mod Sections
pub mod Flags
