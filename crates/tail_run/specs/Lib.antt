pub mod Leaving
pub mod Ids
pub mod Finished
pub mod Tails
