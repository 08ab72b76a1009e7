pub mod Sorting
pub mod SortingView
pub mod Options
pub mod Words
pub mod Ranges
