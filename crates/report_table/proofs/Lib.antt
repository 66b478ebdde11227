pub mod CellLemmas
pub mod CellsBack
pub mod Effects
pub mod MemoryRows
pub mod ReadBack
pub mod ReportLemmas
pub mod Selects
pub mod Texts
