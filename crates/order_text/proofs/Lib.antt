pub mod MarkLemmas
pub mod RightLanes
pub mod LaneLemmas
