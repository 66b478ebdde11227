pub mod Among
pub mod Cases
pub mod KindsAndClasses
pub mod Known
pub mod Passed
pub mod Seen
pub mod Shares
pub mod Table
