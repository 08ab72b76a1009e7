pub mod RecordLemmas
pub mod PlaceLemmas
