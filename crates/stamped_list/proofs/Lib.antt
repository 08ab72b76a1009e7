pub mod StampLemmas
