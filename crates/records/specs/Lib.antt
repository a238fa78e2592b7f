-- The modules' records in an order.
pub mod Records
