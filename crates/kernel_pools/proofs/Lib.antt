pub mod PoolLemmas
pub mod OpenLemmas
