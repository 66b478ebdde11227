pub mod Cost
pub mod Kept
pub mod Known
pub mod Rows
pub mod Says
pub mod Sound
pub mod Tallied
