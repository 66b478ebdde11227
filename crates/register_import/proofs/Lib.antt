pub mod BatchLemmas
pub mod SortLemmas
pub mod MemberLemmas
pub mod UnitLemmas
