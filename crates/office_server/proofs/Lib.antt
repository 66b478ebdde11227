pub mod DeskLemmas
pub mod Passes
pub mod Services
