pub mod ListSourceLemmas
pub mod PutsLemmas
pub mod TakesLemmas
pub mod WindowLemmas
