pub mod CountingLemmas
pub mod ElectionLemmas
pub mod MarkLemmas
pub mod PassLemmas
pub mod ReadingLemmas
pub mod SeenLemmas
pub mod StreakLemmas
