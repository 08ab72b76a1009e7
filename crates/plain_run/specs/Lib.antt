pub mod PlainRun
pub mod Underway
