pub mod RowLemmas
pub mod SizeLemmas
pub mod RoundTrip
pub mod WritingLemmas
pub mod FirstLines
