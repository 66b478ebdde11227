pub mod ImageLemmas
pub mod KeepsLemmas
pub mod Overwrite
pub mod ReadLemmas
pub mod StopLemmas
pub mod ToldLemmas
pub mod WriteLemmas
