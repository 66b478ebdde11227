pub mod Gases
pub mod Instruments
pub mod Leaps
pub mod Readings
pub mod Standings
