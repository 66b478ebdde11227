pub mod Batches
pub mod Dock
pub mod Requests
pub mod Served
pub mod Session
pub mod Speech
pub mod Working
