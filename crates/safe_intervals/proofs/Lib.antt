pub mod Counting
pub mod Exchange
pub mod FromLemmas
pub mod GapLemmas
pub mod ListLemmas
pub mod PlaceGaps
pub mod SafeLemmas
