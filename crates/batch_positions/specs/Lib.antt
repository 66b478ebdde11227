pub mod Index
pub mod LateTree
pub mod Links
pub mod Positions
