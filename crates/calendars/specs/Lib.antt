pub mod Records
pub mod Places
pub mod Assignments
pub mod Views
