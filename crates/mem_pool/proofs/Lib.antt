pub mod BitLemmas
pub mod PoolLemmas
