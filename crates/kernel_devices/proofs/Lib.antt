pub mod ArrivalLemmas
pub mod DeviceLemmas
pub mod DrainLemmas
pub mod LawLemmas
pub mod OpenLemmas
pub mod PowerLemmas
pub mod ValidLemmas
