pub mod WordLemmas
pub mod ShiftLemmas
pub mod CellLemmas
pub mod GatherLemmas
pub mod FlowLemmas
