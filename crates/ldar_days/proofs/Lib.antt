pub mod Months
pub mod Dates
pub mod Quarters
pub mod Weeks
pub mod Sums
pub mod Texts
