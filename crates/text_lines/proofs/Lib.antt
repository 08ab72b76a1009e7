pub mod Cuts
pub mod LineLemmas
pub mod FieldLemmas
pub mod NumberLemmas
pub mod WrittenLines
pub mod NumberedLemmas
