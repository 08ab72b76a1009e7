pub mod Passes
pub mod Calls
pub mod Laws
pub mod EndedCallers
pub mod Ended
