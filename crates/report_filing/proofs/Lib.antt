pub mod CallLemmas
pub mod RevisionLemmas
pub mod SameCells
