pub mod LinkLemmas
pub mod OrderLemmas
pub mod TableLemmas
pub mod PlaceLemmas
