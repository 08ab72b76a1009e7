pub mod Moves
pub mod Totals
pub mod Lines
pub mod Printing
pub mod Places
