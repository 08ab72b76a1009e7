pub mod Counts
pub mod Files
pub mod ShelfState
pub mod SinkState
pub mod StreamState
pub mod Written
