pub mod Lists
pub mod HeldLemmas
pub mod QueueLemmas
