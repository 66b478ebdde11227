pub mod Moments
pub mod Pumps
pub mod Repairs
pub mod Runs
pub mod Samples
pub mod Seals
pub mod Signs
pub mod Walked
