pub mod Facts
pub mod Fields
pub mod Identity
pub mod KeyLaws
pub mod Name
pub mod Named
pub mod Stated
