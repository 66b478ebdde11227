pub mod Classes
pub mod Inside
pub mod Members
pub mod Once
pub mod Slots
