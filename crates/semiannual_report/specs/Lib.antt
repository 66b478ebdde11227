pub mod Columns
pub mod Halves
