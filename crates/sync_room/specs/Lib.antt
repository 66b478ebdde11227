pub mod Calls
pub mod OwnCalls
pub mod OwnCallsLaws
pub mod Passes
pub mod Rule
pub mod Turns
pub mod Why
