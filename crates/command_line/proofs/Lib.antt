pub mod OptionLemmas
pub mod SortingLemmas
