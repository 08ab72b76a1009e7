mod LineKeys
pub mod Numbering
mod PrintLemmas
mod Steps
mod TextLemmas
mod TestLemmas
