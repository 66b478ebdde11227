pub mod IndexLemmas
pub mod TreeLemmas
