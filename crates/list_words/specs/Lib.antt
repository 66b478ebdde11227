pub mod Order
pub mod Parts
pub mod Ranges
pub mod Words
