-- What a sheet means: its cells, how they are worked, what is listed of them, and what a run answers.
pub mod Timeline
pub mod Satisfied
pub mod Working
pub mod Order
pub mod Listing
pub mod Ends
pub mod Buffer
pub mod Run
pub mod Renumbering
pub mod Demand2
pub mod Demand3
pub mod Examples
pub mod RunConditions
pub mod LaterEvents
pub mod OneDriver
