pub mod LinkLemmas
pub mod LevelBits
pub mod RowLemmas
pub mod PickLemmas
pub mod HeldLemmas
