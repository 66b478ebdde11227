pub mod MapLemmas
pub mod OrderLemmas
