pub mod BatchLemmas
pub mod DayLemmas
pub mod FlagLemmas
pub mod SearchLemmas
pub mod WindowLemmas
