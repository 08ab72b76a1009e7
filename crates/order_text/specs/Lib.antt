pub mod Lanes
pub mod OrderGrammar
pub mod Marks
