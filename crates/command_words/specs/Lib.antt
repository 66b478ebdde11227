pub mod Positionals
pub mod Parsing
