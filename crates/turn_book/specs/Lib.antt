pub mod Turns
pub mod Seats
pub mod Passes
pub mod Replying
pub mod Causes
pub mod Opening
