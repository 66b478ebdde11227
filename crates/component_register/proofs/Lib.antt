pub mod DayLemmas
pub mod FirstLemmas
pub mod HoldLemmas
pub mod MemberLemmas
pub mod RowLemmas
