pub mod Samples
pub mod View
