pub mod Calendar
pub mod Quarters
pub mod Texts
