pub mod AfterLemmas
pub mod CleanLemmas
pub mod Fronts
pub mod SettlingLemmas
pub mod TellsLemmas
pub mod ToldLemmas
pub mod UntilLemmas
pub mod WalkLemmas
