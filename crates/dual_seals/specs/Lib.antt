pub mod Keyed
pub mod OrderLaws
pub mod RowKeys
pub mod RowOrder
pub mod Rows
pub mod Samples
