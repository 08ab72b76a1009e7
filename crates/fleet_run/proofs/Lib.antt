pub mod PrepareLemmas
pub mod RunLemmas
pub mod WritingLemmas
pub mod Complete
pub mod SharedLemmas
