pub mod SharedLemmas
pub mod EndedLemmas
pub mod EndedExample
