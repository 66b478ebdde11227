mod ChainLemmas
mod CoverLemmas
mod DayLemmas
mod LeastLemmas
mod RouteLemmas
mod Sorted
mod VisitLemmas
