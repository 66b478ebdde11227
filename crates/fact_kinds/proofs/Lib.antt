pub mod Cuts
pub mod Equality
pub mod FieldEquality
pub mod Identities
pub mod KeyOrder
pub mod KindEquality
pub mod KindItself
pub mod OrderFree
