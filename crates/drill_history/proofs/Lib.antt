pub mod FactLemmas
pub mod TurnLemmas
pub mod DrillLemmas
pub mod CountLemmas
pub mod IdentityLemmas
pub mod BatchLemmas
pub mod ShownLemmas
