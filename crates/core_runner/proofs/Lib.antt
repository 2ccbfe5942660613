-- Lemmas.
pub mod ListLemmas
pub mod PlaceLemmas
pub mod TurnLemmas
pub mod SleptLemmas
pub mod RunLemmas
pub mod PartLemmas
pub mod ReaderLemmas
pub mod ReplayLemmas
