-- The working order, by ranks that are counted in a matrix.
pub mod Arranged
