-- The program: its input and what it prints.
pub mod Program
pub mod Room
