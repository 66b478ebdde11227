pub mod DigitLemmas
pub mod EnoughLemmas
pub mod RecordLemmas
