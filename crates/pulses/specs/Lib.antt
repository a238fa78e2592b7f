-- Pulses that are shorter than a width, and the report of them.
pub mod Pulse
pub mod Report
pub mod InListing
pub mod Reporting
pub mod Renumbered
pub mod Examples
