pub mod Fronts
pub mod Serving
pub mod Together
pub mod Words
