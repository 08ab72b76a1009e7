pub mod Answers
pub mod Runs
pub mod Numbering
pub mod Answering
