-- A lent text, and what is put into it.
pub mod Letters
pub mod Decimal
pub mod Lent
