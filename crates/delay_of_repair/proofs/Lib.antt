pub mod CountedLemmas
mod StopLemmas
